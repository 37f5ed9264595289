-- An item of each kind and its record, by computation. Assumes nothing.
use mathlib.Core.List.{flatten}
use mathlib.Core.Path.{refl}
use Rattle.fields.specs.Bytes.{is_equal}
use Rattle.fields.specs.Digits.{digits}
use Rattle.list.specs.Encode.{fill, body_placed, encode_item, encode_trailer}
use Rattle.list.specs.ItemExamples.{ItemExamples}
use Rattle.list.specs.Items.{items_from}
use Rattle.list.specs.Table.{first_row}

pub item-examples : ItemExamples
unfolding is_equal digits flatten fill body_placed encode_item encode_trailer items_from first_row
item-examples =
    record {
      header = (refl, refl);
      recall-header = (refl, refl);
      recall = (refl, refl);
      disposition = (refl, refl);
      coordinates = (refl, refl);
      creditor = (refl, refl);
      debtor = (refl, refl);
      address = (refl, refl);
      reason = (refl, refl);
      further_reason = (refl, refl);
      creditor_data = (refl, refl);
      control = (refl, refl);
      trailer = refl;
      recall-trailer = refl;
    }
