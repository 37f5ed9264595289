-- Document 02, E7: what differs between two evenings. What an account is, which is the shortest and which of the shortest is meant is said in
-- `Account` of `evenings`, without a word of how it is found; here, that the shipped comparison writes that account and no other. Assumes nothing.
use Rattle.std.specs.Prelude.{ℕ, suc, ◌+◌, ◌<◌, List, ◌≡◌, length, get_or}
use Rattle.flow.specs.Judge.{judge}
use Rattle.flow.specs.Output.{FilledWith}
use Rattle.flow.specs.Verdict.{accepted}
use Rattle.flow.specs.declared.answer.Totals.{Totals}
use Rattle.evenings.specs.Account.{Line, letters}
use Rattle.evenings.specs.Compare.{account_between, lines_of, compare, no_line, find_line}
use Rattle.evenings.specs.Examples.{EveningExamples}
use Rattle.evenings.specs.Laws.{SameDecides, Meant, SortsCounted, ToldInOrder}
use Rattle.evenings.specs.Requests.{requests_of, openings_in}
use Rattle.evenings.specs.Told.{told}
use Rattle.evenings.specs.declared.comparison.Lines.{Lines}

-- the account that a comparison has written between two flows
pub record Written (old new : List ℕ) (lent : ℕ) (out : List ℕ) (s : Lines) : Type 0 where
  pub lines : List Line
  -- these lines stand at the front of the output, the rest of it is as it was, and they are counted by their sorts
  pub filled : FilledWith (compare old new lent out) (letters lines) out
  pub sorts : s ≡ lines_of lines
  -- it leads from the old flow's requests to the new flow's, no account that does is shorter, the stated preference picks it and no other
  pub meant : Meant (requests_of old) (requests_of new) lines
  -- each request of the old flow is kept or dropped, each of the new one kept or added
  pub counted : SortsCounted lines (requests_of old) (requests_of new)
  -- by place: the lines K and A tell all records 14 of the new flow, in order, and the lines D some of the old flow's, in order, each once
  pub in_order : ToldInOrder (openings_in old) (openings_in new) lines

pub record TwoEvenings : Type 0 where
  -- two requests are the same exactly where their items are: kind bytes and carried bytes, in order
  pub same : SameDecides
  -- as many requests and records 14 stand in a flow as it is answered
  pub requests : (f : List ℕ) (t : Totals) → judge f ≡ accepted t → (length (requests_of f) ≡ t.dispositions) × (length (openings_in f) ≡ t.dispositions)
  pub written : (old new : List ℕ) (lent : ℕ) (out : List ℕ) (s : Lines) → (compare old new lent out).answer ≡ accepted s → Written old new lent out s
  -- so kept and dropped are the old flow's count, kept and added the new flow's
  pub counts :
      (old new : List ℕ) (lent : ℕ) (out : List ℕ) (s : Lines) (t u : Totals) → (compare old new lent out).answer ≡ accepted s → judge old ≡ accepted t → judge new ≡ accepted u
      → (s.kept + s.dropped ≡ t.dispositions) × (s.kept + s.added ≡ u.dispositions)
  -- and a line asked by its number is that line
  pub line :
      (old new : List ℕ) (lent : ℕ) (out : List ℕ) (s : Lines) → (compare old new lent out).answer ≡ accepted s → (n : ℕ) → n < length (account_between old new)
      → find_line old new lent (suc n) ≡ accepted (get_or (told (openings_in old) (openings_in new) (account_between old new)) n no_line)
  pub examples : EveningExamples
