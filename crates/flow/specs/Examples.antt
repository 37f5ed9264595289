-- The two-rent flow of document 01 and what reading answers, as equations that compute. Assumes nothing.
use Rattle.std.specs.Prelude.{ℕ, ◌+◌, ◌*◌, List, [], ◌∷◌, ◌++◌, ◌≡◌}
use Prim.Native.String.{String}
use Rattle.sequences.specs.Part.{put}
use Rattle.sequences.specs.Text.{text}
use Rattle.records.specs.declared.flow_kind.FlowKind.TheVariants.{Requests, Recalls}
use Rattle.flow.specs.Find.{find, part_of, offset_of}
use Rattle.flow.specs.Judge.{judge}
use Rattle.flow.specs.Verdict.{accepted, refused, refusal, of_call}
use Rattle.flow.specs.declared.answer.Totals.{Totals}

-- records, one after the other
abbrev pub flow_of : List String → List ℕ
flow_of [] = []
flow_of (r ∷ rs) = text r ++ flow_of rs

-- the header and the trailer of the two-rent flow
abbrev pub header_im : String
header_im = " IMAB12301234150326RENT-MARCH                                                                                    E      "

abbrev pub trailer_ef : String
trailer_ef = " EFAB12301234150326RENT-MARCH                00000020000000000830500000000000000000000016                        E      "

-- the records of its first disposition that stand before 50
abbrev pub first_opened : List String
first_opened =
    " 140000001            310326070000000000045000-0123402400000000123456                      AB1232S0017                 E"
    ∷ " 200000001RESIDENZA SAN MARTINO   VIA DEI COLLEGI 12      20100 MILANO MI                                               "
    ∷ " 300000001ROSSI GIULIA                                                RSSGLI05A41F205X                                  "
    ∷ " 400000001VIA DEI COLLEGI 12            20100MILANO MI                STANZA 17                                         "
    ∷ []

-- a 59, for the place of the 50
abbrev pub further59 : String
further59 = " 590000001RETTA MARZO 2026                                                                                              "

-- the rest of its first disposition, and its second
abbrev pub first_closed : List String
first_closed =
    " 500000001RETTA MARZO 2026                                                                                              "
    ∷ " 5100000010000000017                                                                                                    "
    ∷ " 700000001                                                                                                              "
    ∷ []

abbrev pub second : List String
second =
    " 140000002            310326070000000000038050-0123402400000000123456                      AB1232S0023                 E"
    ∷ " 200000002RESIDENZA SAN MARTINO   VIA DEI COLLEGI 12      20100 MILANO MI                                               "
    ∷ " 300000002BIANCHI MARCO                                               BNCMRC04P12F205Y                                  "
    ∷ " 400000002VIA DEI COLLEGI 12            20100MILANO MI                STANZA 23                                         "
    ∷ " 500000002RETTA MARZO 2026                                                                                              "
    ∷ " 5100000020000000023                                                                                                    "
    ∷ " 700000002                                                                                                              "
    ∷ []

abbrev pub two_rents : List ℕ
two_rents = flow_of ((header_im ∷ first_opened) ++ (first_closed ++ (second ++ (trailer_ef ∷ []))))

-- "accepted dispositions 2 cents 83050 records 16 kind requests"
abbrev pub two_rent_totals : Totals
two_rent_totals = record { kind = Requests; dispositions = 2; cents = 83050; records = 16 }

-- the flow with the causale and the sign of a recall in its record at index i, and with other bytes at 53-82 of its trailer
abbrev pub recalled_at : ℕ → List ℕ → List ℕ
recalled_at i f = put (120 * i + 46) (text "+") (put (120 * i + 28) (text "07100") f)

abbrev pub totalled_by : String → List ℕ → List ℕ
totalled_by total f = put (120 * 15 + 52) (text total) f

-- the recall of the two rents: the total stands at 68-82
abbrev pub two_recalls : List ℕ
two_recalls = totalled_by "000000000000000000000000083050" (recalled_at 1 (recalled_at 8 two_rents))

abbrev pub two_recall_totals : Totals
two_recall_totals = record { kind = Recalls; dispositions = 2; cents = 83050; records = 16 }

-- the flow with other bytes for the company code in its record at index i
abbrev pub coded_at : ℕ → String → List ℕ → List ℕ
coded_at i code f = put (120 * i + 91) (text code) f

-- the two rents without a company code
abbrev pub no_codes : List ℕ
no_codes = coded_at 1 "     " (coded_at 8 "     " two_rents)

-- the flow with other bytes for the amount in its record at index i
abbrev pub asking_at : ℕ → String → List ℕ → List ℕ
asking_at i amount f = put (120 * i + 33) (text amount) f

-- the two rents with nothing asked for the second, and with one cent, each with the total that this makes
abbrev pub nothing_asked : List ℕ
nothing_asked = asking_at 8 "0000000000000" (totalled_by "000000000045000000000000000000" two_rents)

abbrev pub one_cent_asked : List ℕ
one_cent_asked = asking_at 8 "0000000000001" (totalled_by "000000000045001000000000000000" two_rents)

abbrev pub one_cent_totals : Totals
one_cent_totals = record { kind = Requests; dispositions = 2; cents = 45001; records = 16 }

-- the header and the first records of a disposition, then the records given
abbrev pub with_further : List String → List ℕ
with_further furthers = flow_of ((header_im ∷ first_opened) ++ furthers)

pub record FlowExamples : Type 0 where
  pub two_rents_lem : judge two_rents ≡ accepted two_rent_totals
  -- document 01, examples 4, 5, 6 and 8
  pub empty : judge [] ≡ refused (of_call 1)
  pub header_alone : judge (flow_of (header_im ∷ [])) ≡ refused (refusal 4 2 0)
  pub no_disposition : judge (flow_of (header_im ∷ trailer_ef ∷ [])) ≡ refused (refusal 3 2 2)
  pub six_further : judge (with_further (further59 ∷ further59 ∷ further59 ∷ further59 ∷ further59 ∷ further59 ∷ [])) ≡ refused (refusal 3 11 2)
  -- five are not too many: after them a record is due
  pub five_further : judge (with_further (further59 ∷ further59 ∷ further59 ∷ further59 ∷ further59 ∷ [])) ≡ refused (refusal 4 11 0)
  -- where the two rents stand: their records are 2 to 8 and 9 to 15
  pub first_rent : find two_rents 1 ≡ accepted (record { first = 2; records = 7; cents = 45000 })
  pub second-rent : find two_rents 2 ≡ accepted (record { first = 9; records = 7; cents = 38050 })
  pub no_rent_0 : find two_rents 0 ≡ refused (of_call 15)
  pub no_rent_3 : find two_rents 3 ≡ refused (of_call 15)
  pub none_in_empty : find [] 1 ≡ refused (of_call 1)
  -- the part is the second rent's seven records
  pub second-part : part_of two_rents 2 ≡ flow_of second
  -- it starts after eight records; that of a refusal at the flow's start
  pub second_offset : offset_of two_rents 2 ≡ 960
  pub no_offset : offset_of two_rents 3 ≡ 0
  -- document 02, E1: the recall of both rents
  pub two_recalls_lem : judge two_recalls ≡ accepted two_recall_totals
  -- a second 14 of the other kind
  pub recall_after_request : judge (recalled_at 8 two_rents) ≡ refused (refusal 22 9 29)
  pub request_after_recall : judge (recalled_at 1 two_rents) ≡ refused (refusal 22 9 29)
  -- a causale of no kind, in the first 14 and in the second
  pub no_kind_first : judge (put 148 (text "07200") two_rents) ≡ refused (refusal 6 2 29)
  pub no_kind_second : judge (put 988 (text "07200") two_recalls) ≡ refused (refusal 6 9 29)
  -- a sign that is not the kind's
  pub recall_with_minus : judge (put 166 (text "-") two_recalls) ≡ refused (refusal 6 2 47)
  pub request_with_plus : judge (put 166 (text "+") two_rents) ≡ refused (refusal 6 2 47)
  -- the total at the place of requests, at neither place, at both; and of requests at the place of recalls
  pub recall-asked : judge (totalled_by "000000000083050000000000000000" two_recalls) ≡ refused (refusal 13 16 53)
  pub recall_nowhere : judge (totalled_by "000000000000000000000000000000" two_recalls) ≡ refused (refusal 13 16 68)
  pub recall_twice : judge (totalled_by "000000000083050000000000083050" two_recalls) ≡ refused (refusal 13 16 53)
  pub request_recalled : judge (totalled_by "000000000000000000000000083050" two_rents) ≡ refused (refusal 13 16 53)
  pub recall_no_digits : judge (totalled_by "              0000000000083050" two_recalls) ≡ refused (refusal 5 16 53)
  -- document 02, E4: blanks on both; blanks and then a code, and the other way round, also in a recall
  pub no_codes_lem : judge no_codes ≡ accepted two_rent_totals
  pub code_after_blanks : judge (coded_at 8 "AB123" no_codes) ≡ refused (refusal 11 9 92)
  pub blanks_after_code : judge (coded_at 8 "     " two_rents) ≡ refused (refusal 11 9 92)
  pub blanks_recalled : judge (coded_at 8 "     " two_recalls) ≡ refused (refusal 11 9 92)
  -- another code on both; codes that differ in their first byte, in their last, and in where a blank stands
  pub other_code : judge (coded_at 1 "Z   9" (coded_at 8 "Z   9" two_rents)) ≡ accepted two_rent_totals
  pub code_first_byte : judge (coded_at 8 "BB123" two_rents) ≡ refused (refusal 11 9 92)
  pub code_last_byte : judge (coded_at 8 "AB124" two_rents) ≡ refused (refusal 11 9 92)
  pub code_moved : judge (coded_at 1 "B123 " (coded_at 8 " B123" two_rents)) ≡ refused (refusal 11 9 92)
  -- what stands before the code is refused before it, and what stands after it later
  pub code_after_cab : judge (put 1012 (text "X") (coded_at 8 "     " two_rents)) ≡ refused (refusal 5 9 53)
  pub code_before_tipo : judge (put 1056 (text "7") (coded_at 8 "     " two_rents)) ≡ refused (refusal 11 9 92)
  -- document 02, E5: a request of zero, in the second 14 and in the first, with a wrong sign after it, and in a recall; the least amount
  pub nothing-asked : judge nothing_asked ≡ refused (refusal 25 9 34)
  pub nothing_first : judge (asking_at 1 "0000000000000" nothing_asked) ≡ refused (refusal 25 2 34)
  pub nothing_signed : judge (put 1006 (text "+") nothing_asked) ≡ refused (refusal 25 9 34)
  pub nothing_recalled : judge (asking_at 8 "0000000000000" two_recalls) ≡ refused (refusal 25 9 34)
  pub one_cent : judge one_cent_asked ≡ accepted one_cent_totals
  -- a causale of no kind comes before it, and so do bytes that are no digits
  pub nothing_no_kind : judge (put 988 (text "07200") nothing_asked) ≡ refused (refusal 6 9 29)
  pub nothing_no_digits : judge (asking_at 8 "000000000000 " nothing_asked) ≡ refused (refusal 5 9 34)
