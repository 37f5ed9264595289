-- One item of each kind and the record that it encodes, written out from document 01's table of kinds ("Our request list"). No check of a
-- record names most of the positions that an item carries, so that no law pins them: here the bytes of a body all differ as far as there are
-- enough, those that come again stand backwards, and each has its place. Assumes nothing.
use Rattle.std.specs.Prelude.{ℕ, List, [], ◌∷◌, map, ◌≡◌}
use Prim.Native.String.{String}
use Rattle.sequences.specs.Text.{text}
use Rattle.records.specs.declared.flow_kind.FlowKind.{FlowKind}
use Rattle.records.specs.declared.flow_kind.FlowKind.TheVariants.{Requests, Recalls}
use Rattle.list.specs.Encode.{HeaderMeant, encode_item, encode_trailer}
use Rattle.list.specs.Items.{list_bytes, items_in}
use Rattle.list.specs.ReadBack.{item_of}

-- the header meant, by its body, which is not that of the header's own example, and its kind of flow
abbrev pub header_body : List ℕ
header_body = text "TUVWXYZ[]^_`abcdefghijklmnopqrstuvwxyz{|}~!#$%&'("

abbrev pub header_of : FlowKind → HeaderMeant
header_of q = record { kind = q; body = header_body }

-- in a flow of the kind an item encodes the record, with number 1234567, and is what the record gives back
abbrev pub CarriesIn : FlowKind → String → String → Type 0
CarriesIn q it rec = (map (encode_item 1234567 (header_of q)) (items_in (text it)) ≡ text rec ∷ []) × (list_bytes (item_of q (text rec)) ≡ text it)

abbrev pub Carries : String → String → Type 0
Carries = CarriesIn Requests

pub record ItemExamples : Type 0 where
  pub header :
      Carries
      "H!#$%&'()*+,-./0123456789:;<=>?@ABCDEFGHIJKLMNOPQR"
      " IM!#$%&'()*+,-./0123456789:;<=>?@ABCDEFGHIJK                                                           LMNOPQR  E      "
  pub recall-header :
      CarriesIn Recalls
      "Q!#$%&'()*+,-./0123456789:;<=>?@ABCDEFGHIJKLMNOPQR"
      " IM!#$%&'()*+,-./0123456789:;<=>?@ABCDEFGHIJK                                                           LMNOPQR  E      "
  pub recall :
      CarriesIn Recalls
      "D)*+,-./0123456789:;<=>?@ABCDEFGHIJKLMNOPQRSTUVWXYZ[]^_`abc"
      " 141234567            )*+,-.07100/0123456789:;+YZ[]^<=>?@ABCDEFGHIJKL                      MNOPQRSTUVWXYZ[]^_`abc      E"
  pub disposition :
      Carries
      "D)*+,-./0123456789:;<=>?@ABCDEFGHIJKLMNOPQRSTUVWXYZ[]^_`abc"
      " 141234567            )*+,-.07000/0123456789:;-YZ[]^<=>?@ABCDEFGHIJKL                      MNOPQRSTUVWXYZ[]^_`abc      E"
  pub coordinates :
      Carries
      "S0123456789:;<=>?@ABCDEFGHIJ"
      " 1612345670123456789:;<=>?@ABCDEFGHIJ                                                                                   "
  pub creditor :
      Carries
      "C789:;<=>?@ABCDEFGHIJKLMNOPQRSTUVWXYZ[]^_`abcdefghijklmnopqrstuvwxyz{|}~!#$%&'()*+,-./0123456:987"
      " 201234567789:;<=>?@ABCDEFGHIJKLMNOPQRSTUVWXYZ[]^_`abcdefghijklmnopqrstuvwxyz{|}~!#$%&'()*+,-./0123456:987              "
  pub debtor :
      Carries
      "B>?@ABCDEFGHIJKLMNOPQRSTUVWXYZ[]^_`abcdefghijklmnopqrstuvwxyz{|}~!#$%&'()*+,-"
      " 301234567>?@ABCDEFGHIJKLMNOPQRSTUVWXYZ[]^_`abcdefghijklmnopqrstuvwxyz{|}~!#$%&'()*+,-                                  "
  pub address :
      Carries
      "AEFGHIJKLMNOPQRSTUVWXYZ[]^_`abcdefghijklmnopqrstuvwxyz{|}~!#$%&'()*+,-./0123456789:;<=>?@ABCDVUTSRQPONMLKJIHGFE"
      " 401234567EFGHIJKLMNOPQRSTUVWXYZ[]^_`abcdefghijklmnopqrstuvwxyz{|}~!#$%&'()*+,-./0123456789:;<=>?@ABCDVUTSRQPONMLKJIHGFE"
  pub reason :
      Carries
      "RLMNOPQRSTUVWXYZ[]^_`abcdefghijklmnopqrstuvwxyz{|}~!#$%&'()*+,-./0123456789:;<=>?@ABCDEFGHIJK^][ZYXWVUTSRQPONML"
      " 501234567LMNOPQRSTUVWXYZ[]^_`abcdefghijklmnopqrstuvwxyz{|}~!#$%&'()*+,-./0123456789:;<=>?@ABCDEFGHIJK^][ZYXWVUTSRQPONML"
  pub further_reason :
      Carries
      "XSTUVWXYZ[]^_`abcdefghijklmnopqrstuvwxyz{|}~!#$%&'()*+,-./0123456789:;<=>?@ABCDEFGHIJKLMNOPQRedcba`_^][ZYXWVUTS"
      " 591234567STUVWXYZ[]^_`abcdefghijklmnopqrstuvwxyz{|}~!#$%&'()*+,-./0123456789:;<=>?@ABCDEFGHIJKLMNOPQRedcba`_^][ZYXWVUTS"
  pub creditor_data :
      Carries
      "KZ[]^_`abcdefghijklmnopqrstuvwxyz{|}~!#$%&'()*+,-./0123456789:;<=>?@ABCDEFGHIJKLMNOPQRSTUVWXYlkjihgfedcba`_^][Z"
      " 511234567Z[]^_`abcdefghijklmnopqrstuvwxyz{|}~!#$%&'()*+,-./0123456789:;<=>?@ABCDEFGHIJKLMNOPQRSTUVWXYlkjihgfedcba`_^][Z"
  pub control :
      Carries
      "Zbcdefghijklmnopqrstuvwxyz{"
      " 701234567                                                                                   b cdefghijklmnopqrstuvwxyz{"
  -- EF copies 4-45 of the header, of which 40-45 are not compared
  pub trailer :
      encode_trailer header_body (record { kind = Requests; dispositions = 1234567; cents = 123456789012345; records = 7654321 })
      ≡ text " EFTUVWXYZ[]^_`abcdefghijklmnopqrstuvwxyz{|}~12345671234567890123450000000000000007654321                        E      "
  pub recall-trailer :
      encode_trailer header_body (record { kind = Recalls; dispositions = 1234567; cents = 123456789012345; records = 7654321 })
      ≡ text " EFTUVWXYZ[]^_`abcdefghijklmnopqrstuvwxyz{|}~12345670000000000000001234567890123457654321                        E      "
