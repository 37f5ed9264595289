-- The two-rent list of document 01 and what it encodes, as equations that compute. Assumes nothing.
use Rattle.std.specs.Prelude.{ℕ, List, [], ◌∷◌, ◌++◌, map, ◌≡◌, length}
use Prim.Native.String.{String}
use Rattle.sequences.specs.Part.{put}
use Rattle.sequences.specs.Text.{text}
use Rattle.records.specs.Field.{field}
use Rattle.flow.specs.Examples.{flow_of, header_im, trailer_ef, two_rents, two_rent_totals, two_recalls, two_recall_totals}
use Rattle.flow.specs.Verdict.{accepted, refused, refusal, of_call}
use Rattle.list.specs.Encode.{trailer_for, encode}
use Rattle.list.specs.Items.{items_in}
use Rattle.list.specs.ReadBack.{list_of, judge_room, Canonical}
use Rattle.list.specs.Table.{body_length, rows}
use Rattle.list.specs.Write.{judge_list}

-- the items of the header, and of each of the two dispositions
abbrev pub header_item : List String
header_item = "HAB12301234150326RENT-MARCH                       " ∷ []

abbrev pub first_items : List String
first_items =
    "D310326000000004500002400000000123456AB1232S0017           "
    ∷ "CRESIDENZA SAN MARTINO   VIA DEI COLLEGI 12      20100 MILANO MI                                 "
    ∷ "BROSSI GIULIA                                                RSSGLI05A41F205X"
    ∷ "AVIA DEI COLLEGI 12            20100MILANO MI                STANZA 17                                         "
    ∷ "RRETTA MARZO 2026                                                                                              "
    ∷ "K0000000017                                                                                                    "
    ∷ "Z                          "
    ∷ []

abbrev pub second_items : List String
second_items =
    "D310326000000003805002400000000123456AB1232S0023           "
    ∷ "CRESIDENZA SAN MARTINO   VIA DEI COLLEGI 12      20100 MILANO MI                                 "
    ∷ "BBIANCHI MARCO                                               BNCMRC04P12F205Y"
    ∷ "AVIA DEI COLLEGI 12            20100MILANO MI                STANZA 23                                         "
    ∷ "RRETTA MARZO 2026                                                                                              "
    ∷ "K0000000023                                                                                                    "
    ∷ "Z                          "
    ∷ []

abbrev pub two_rent_list : List ℕ
two_rent_list = flow_of (header_item ++ (first_items ++ second_items))

-- the same with Q for H
abbrev pub two_recall_list : List ℕ
two_recall_list = put 0 (text "Q") two_rent_list

abbrev pub one_rent_list : List ℕ
one_rent_list = flow_of (header_item ++ first_items)

pub record ListExamples : Type 0 where
  -- the table's last column
  pub bodies : map body_length rows ≡ 49 ∷ 49 ∷ 58 ∷ 27 ∷ 96 ∷ 76 ∷ 110 ∷ 110 ∷ 110 ∷ 110 ∷ 26 ∷ []
  -- document 01, example 1: this EF is what the list encodes; and so is the whole flow
  pub trailer : trailer_for (items_in two_rent_list) ≡ text trailer_ef
  pub two_rents_lem : encode (items_in two_rent_list) ≡ two_rents
  -- document 01, example 9: a list of one disposition with R and no S has 643 bytes and encodes 1,080
  pub one-rent : length one_rent_list ≡ 643
  pub one-rent-encoded : length (encode (items_in one_rent_list)) ≡ 1080
  -- written, with room and one byte short of it
  pub written : judge_list two_rent_list 1920 ≡ accepted two_rent_totals
  pub one-short : judge_list two_rent_list 1919 ≡ refused (of_call 21)
  -- an empty list: 21 below one record of room, then 3 at EF's place
  pub empty : judge_list [] 120 ≡ refused (refusal 3 1 2)
  pub empty-short : judge_list [] 119 ≡ refused (of_call 21)
  -- the header alone: EF may not follow it
  pub header_alone : judge_list (flow_of header_item) 240 ≡ refused (refusal 3 2 2)
  -- a fault of a record
  pub no_header : judge_list (flow_of first_items) 960 ≡ refused (refusal 3 1 2)
  pub second-header : judge_list (flow_of (header_item ++ header_item)) 360 ≡ refused (refusal 3 2 2)
  -- an unknown kind, and a body cut short, are looked for first
  pub unknown : judge_list (text "E") 0 ≡ refused (refusal 20 1 0)
  pub cut_short : judge_list (flow_of (first_items ++ ("Z" ∷ []))) 0 ≡ refused (refusal 20 8 0)
  -- read back
  pub read_back : list_of two_rents ≡ two_rent_list
  pub canonical : Canonical two_rents
  pub room : judge_room two_rents 1236 ≡ accepted two_rent_totals
  pub no_room : judge_room two_rents 1235 ≡ refused (of_call 21)
  pub refused_first : judge_room [] 0 ≡ refused (of_call 1)
  -- document 02, E1: the two-rent list with Q for H encodes the recall of both rents, which is accepted as recalls and gives the list back
  pub recall-trailer : (field 53 67 (trailer_for (items_in two_recall_list)) ≡ text "000000000000000") × (field 68 82 (trailer_for (items_in two_recall_list)) ≡ text "000000000083050")
  pub two_recalls_lem : encode (items_in two_recall_list) ≡ two_recalls
  pub recalls_written : judge_list two_recall_list 1920 ≡ accepted two_recall_totals
  pub recalls_read_back : list_of two_recalls ≡ two_recall_list
  pub recalls_canonical : Canonical two_recalls
  -- the other kind's header in the midst of a list is a second header; and bytes without a 14 have an H
  pub other-header : judge_list (two_rent_list ++ two_recall_list) 3840 ≡ refused (refusal 3 16 2)
  pub no_14 : list_of (flow_of (header_im ∷ [])) ≡ flow_of header_item
  -- document 02, E4: blanks for the second rent's company code
  pub blanks-written : judge_list (put 680 (text "     ") two_rent_list) 1920 ≡ refused (refusal 11 9 92)
  -- document 02, E5: nothing is asked for the second rent
  pub nothing_written : judge_list (put 650 (text "0000000000000") two_rent_list) 1920 ≡ refused (refusal 25 9 34)
