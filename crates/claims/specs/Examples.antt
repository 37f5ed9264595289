-- Document 01's ten worked examples ("The two-rent example": "to be proved of the meanings themselves, gathered in a single list under one
-- claim"), as equations that compute. Its word for "encodes" is "spells". Assumes nothing.
use Rattle.std.specs.Prelude.{ℕ, List, [], ◌∷◌, ◌++◌, ◌≡◌, length, drop, replicate}
use Rattle.sequences.specs.Part.{put}
use Rattle.sequences.specs.Text.{text}
use Rattle.fields.specs.Amount.{amount_field}
use Rattle.fields.specs.FieldVerdict.{accepted as FieldVerdict-accepted}
use Rattle.fields.specs.FieldVerdict.{refused as FieldVerdict-refused}
use Rattle.fields.specs.Date.{date_field}
use Rattle.records.specs.Field.{field}
use Rattle.records.specs.declared.flow_kind.FlowKind.TheVariants.{Requests, Recalls}
use Rattle.flow.specs.Examples.{flow_of, header_im, trailer_ef, further59, with_further, two_rents, two_rent_totals, recalled_at, two_recalls, coded_at, no_codes, nothing_asked, one_cent_asked, one_cent_totals}
use Rattle.flow.specs.Judge.{judge}
use Rattle.flow.specs.Records.{record_at, records_of}
use Rattle.flow.specs.Verdict.{accepted, refused, refusal, of_call}
use Rattle.flow.specs.declared.answer.Totals.{Totals}
use Rattle.grammar.specs.Fault.{company_of}
use Rattle.list.specs.Encode.{trailer_for, encode}
use Rattle.list.specs.Examples.{header_item, second_items, two_rent_list, two_recall_list, one_rent_list}
use Rattle.list.specs.Items.{list_bytes, items_in}
use Rattle.list.specs.Write.{judge_list}
use Rattle.amend.specs.Change.{change}
use Rattle.amend.specs.Laws.{Untouched, flow_left}
use Rattle.amend.specs.Withdraw.{withdraw}
use Rattle.claims.specs.Ledger.{Call, change-accepted, withdrawal_accepted, list_after, replies_on, change_of, withdrawal_of, call_refused}

-- the flow of the first rent alone
abbrev pub one_rent : List ℕ
one_rent = encode (items_in one_rent_list)

-- the totals of the second rent alone
abbrev pub second_totals : Totals
second_totals = record { kind = Requests; dispositions = 1; cents = 38050; records = 9 }

pub record Examples : Type 0 where
  -- "this EF is what the list spells", and so is the whole flow
  pub one : (trailer_for (items_in two_rent_list) ≡ text trailer_ef) × (encode (items_in two_rent_list) ≡ two_rents)
  -- "disposition 2 changed to 40000: total 85000", in the answer and in the bytes of EF; and the amount in those of record 9
  pub two :
      let a = change two_rents 2 40000 in
      (a.answer ≡ accepted (record { kind = Requests; dispositions = 2; cents = 85000; records = 16 }))
      × (field 53 67 (record_at 15 (flow_left a)) ≡ text "000000000085000")
      × (field 34 46 (record_at 8 (flow_left a)) ≡ text "0000000040000")
  -- "disposition 1 withdrawn instead: 1,080 bytes, total 38050, 840 blanks"
  pub three :
      let a = withdraw two_rents 1 in
      (a.answer ≡ accepted second_totals)
      × (a.size ≡ 1080)
      × (field 53 67 (record_at 8 (flow_left a)) ≡ text "000000000038050")
      × (drop 1080 a.bytes ≡ replicate 840 32)
  -- "empty flow: 1"
  pub four : judge [] ≡ refused (of_call 1)
  -- "one right IM alone: 4 at record 2"
  pub five : judge (flow_of (header_im ∷ [])) ≡ refused (refusal 4 2 0)
  -- "IM then EF: 3 at record 2"
  pub six : judge (flow_of (header_im ∷ trailer_ef ∷ [])) ≡ refused (refusal 3 2 2)
  -- "290228 is a date's digits but year 2028, February 29: a date; 290227: 8"
  pub seven :
      (date_field (text "290228") ≡ FieldVerdict-accepted (record { day = 29; month = 2; year = 2028 })) × (date_field (text "290227") ≡ FieldVerdict-refused 8)
  -- "six 59s: 3 at the sixth", which is record 11
  pub eight : judge (with_further (further59 ∷ further59 ∷ further59 ∷ further59 ∷ further59 ∷ further59 ∷ [])) ≡ refused (refusal 3 11 2)
  -- "a list of one disposition with R and no S has 643 bytes and spells 1,080"
  pub nine : (length one_rent_list ≡ 643) × (length one_rent ≡ 1080)
  -- "withdrawing 1 of 1: 18", and nothing is touched
  pub ten : ((withdraw one_rent 1).answer ≡ refused (of_call 18)) × Untouched one_rent (withdraw one_rent 1)

-- document 02, E1: the recall of both rents
pub record RecallExamples : Type 0 where
  -- the two-rent list with Q for H encodes it, with zeros at 53-67 of EF and the sum at 68-82; it is accepted as recalls
  pub encoded : encode (items_in two_recall_list) ≡ two_recalls
  pub trailer : (field 53 67 (trailer_for (items_in two_recall_list)) ≡ text "000000000000000") × (field 68 82 (trailer_for (items_in two_recall_list)) ≡ text "000000000083050")
  pub read : judge two_recalls ≡ accepted (record { kind = Recalls; dispositions = 2; cents = 83050; records = 16 })
  -- disposition 2 changed to 40000: total 85000 at 68-82; and disposition 1 withdrawn instead
  pub changed :
      let a = change two_recalls 2 40000 in
      (a.answer ≡ accepted (record { kind = Recalls; dispositions = 2; cents = 85000; records = 16 }))
      × (field 53 67 (record_at 15 (flow_left a)) ≡ text "000000000000000")
      × (field 68 82 (record_at 15 (flow_left a)) ≡ text "000000000085000")
  pub withdrawn :
      let a = withdraw two_recalls 1 in
      (a.answer ≡ accepted (record { kind = Recalls; dispositions = 1; cents = 38050; records = 9 }))
      × (field 53 67 (record_at 8 (flow_left a)) ≡ text "000000000000000")
      × (field 68 82 (record_at 8 (flow_left a)) ≡ text "000000000038050")
  -- the ledger answers with the kind that its Q gives
  pub answered :
      replies_on (change_of 2 40000 ∷ withdrawal_of 1 ∷ []) (items_in two_recall_list)
      ≡ change-accepted (record { kind = Recalls; dispositions = 2; cents = 85000; records = 16 })
      ∷ withdrawal_accepted (record { kind = Recalls; dispositions = 1; cents = 40000; records = 9 }) 1080
      ∷ []
  -- a second 14 of the other kind: 22 at its record, 29; 07200 in a first or a second 14: 6 at 29; 07100 with "-": 6 at 47
  pub mixed : judge (recalled_at 8 two_rents) ≡ refused (refusal 22 9 29)
  pub no_kind : (judge (put 148 (text "07200") two_rents) ≡ refused (refusal 6 2 29)) × (judge (put 988 (text "07200") two_recalls) ≡ refused (refusal 6 9 29))
  pub wrong_sign : judge (put 166 (text "-") two_recalls) ≡ refused (refusal 6 2 47)

-- document 02, E4: company code on all or on none
pub record CompanyExamples : Type 0 where
  -- on both rents, and on neither
  pub read : (judge two_rents ≡ accepted two_rent_totals) × (judge no_codes ≡ accepted two_rent_totals)
  -- the first blank, the second with a code: 11 at the second's record, 92; the other way round likewise, also in a list
  pub code_after_blanks : judge (coded_at 8 "AB123" no_codes) ≡ refused (refusal 11 9 92)
  pub blanks_after_code : judge (coded_at 8 "     " two_rents) ≡ refused (refusal 11 9 92)
  pub written : judge_list (put 680 (text "     ") two_rent_list) 1920 ≡ refused (refusal 11 9 92)
  -- the first withdrawn: accepted, and the company code stays, be it blanks
  pub withdrawn : ((withdraw two_rents 1).answer ≡ accepted second_totals) × (company_of (records_of (flow_left (withdraw two_rents 1))) ≡ text "AB123")
  pub blanks-withdrawn : ((withdraw no_codes 1).answer ≡ accepted second_totals) × (company_of (records_of (flow_left (withdraw no_codes 1))) ≡ text "     ")
  -- a flow with a code on some cannot be amended, not even by the withdrawal of those without
  pub not-amended : ((change (coded_at 8 "     " two_rents) 1 1).answer ≡ refused (refusal 11 9 92)) × ((withdraw (coded_at 8 "     " two_rents) 2).answer ≡ refused (refusal 11 9 92))

-- document 02, E5: no request for nothing
pub record NothingExamples : Type 0 where
  -- thirteen zeros are no amount, one cent is
  pub field : (amount_field (text "0000000000000") ≡ FieldVerdict-refused 25) × (amount_field (text "0000000000001") ≡ FieldVerdict-accepted 1)
  -- a request of zero: 25 at its record, 34, also with a wrong sign after it; and in a list
  pub read : (judge nothing_asked ≡ refused (refusal 25 9 34)) × (judge (put 1006 (text "+") nothing_asked) ≡ refused (refusal 25 9 34))
  pub written : judge_list (put 650 (text "0000000000000") two_rent_list) 1920 ≡ refused (refusal 25 9 34)
  -- disposition 2 changed to 0: 16, and nothing is touched; a third is missing before that: 15
  pub changed : ((change two_rents 2 0).answer ≡ refused (of_call 16)) × Untouched two_rents (change two_rents 2 0) × ((change two_rents 3 0).answer ≡ refused (of_call 15))
  -- to one cent: accepted
  pub least : ((change two_rents 2 1).answer ≡ accepted one_cent_totals) × ((change two_rents 2 1).bytes ≡ one_cent_asked)
  -- a flow that holds a zero cannot be amended, not even by another amount for that request or by its withdrawal
  pub not-amended : ((change nothing_asked 2 38050).answer ≡ refused (refusal 25 9 34)) × ((withdraw nothing_asked 2).answer ≡ refused (refusal 25 9 34))
  -- the ledger answers the changes so
  pub answered :
      replies_on (change_of 2 0 ∷ change_of 3 0 ∷ change_of 2 1 ∷ []) (items_in two_rent_list)
      ≡ call_refused (of_call 16)
      ∷ call_refused (of_call 15)
      ∷ change-accepted one_cent_totals
      ∷ []

-- beside these, a list of calls on the ledger that starts as the two-rent flow's list: an amount, a number and an amount that are refused, a
-- withdrawal, one of the only disposition, and an amount of what is now the first
abbrev pub some_calls : List Call
some_calls =
    change_of 2 40000
    ∷ change_of 3 1
    ∷ change_of 1 10000000000000
    ∷ withdrawal_of 1
    ∷ withdrawal_of 1
    ∷ change_of 1 39000
    ∷ []

pub record LedgerExample : Type 0 where
  pub answered :
      replies_on some_calls (items_in two_rent_list)
      ≡ change-accepted (record { kind = Requests; dispositions = 2; cents = 85000; records = 16 })
      ∷ call_refused (of_call 15)
      ∷ call_refused (of_call 16)
      ∷ withdrawal_accepted (record { kind = Requests; dispositions = 1; cents = 40000; records = 9 }) 1080
      ∷ call_refused (of_call 18)
      ∷ change-accepted (record { kind = Requests; dispositions = 1; cents = 39000; records = 9 })
      ∷ []
  -- the header's item, and the second rent's with the new amount
  pub left :
      list_bytes (list_after some_calls (items_in two_rent_list))
      ≡ flow_of (header_item ++ ("D310326000000003900002400000000123456AB1232S0023           " ∷ drop 1 second_items))
