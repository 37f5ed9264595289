-- `evenings::fit` meets its contract. Assumes nothing.
use mathlib.Core.Bool.{Bool, true, false, not}
use mathlib.Core.Path.{◌≡◌, refl, sym, ◌∙◌, ap}
use lib.Dec.{leb}
use borrow.Author.Tests.{le-leb, lt-leb}
use denote.Enum.Bare.{sameb, differs_true, differs_false}
use Rattle.fields.proofs.Bytes.{equal_exact}
use Rattle.records.proofs.FlowKinds.{own_causale}
use Rattle.records.specs.FlowKinds.{flow_kinds, causale, kind_among, or_requests}
use Rattle.records.specs.declared.flow_kind.FlowKind.{FlowKind}
use Rattle.records.specs.contracts.flow_kind.FlowKind.{the_type}
use Rattle.evenings.specs.Pair.{same_kind}
use Rattle.evenings.proofs.pair.fit.Goals as goal

-- the code's test of two kinds is the paper's, since a causale tells its kind
by_causale : (q p : FlowKind) (differ b : Bool) → differ ≡ not (sameb the_type q p) → differ ≡ b → same_kind q p ≡ not b
by_causale q p differ true e f = unequal (same_kind q p) refl
  where
    of_one : causale q ≡ causale p → q ≡ p
    of_one c = ap or_requests (sym (own_causale q) ∙ (ap (kind_among flow_kinds) c ∙ own_causale p))

    unequal : (b : Bool) → same_kind q p ≡ b → b ≡ false
    unequal true t = absurd (differs_true the_type q p (sym e ∙ f) (of_one ((equal_exact (causale q) (causale p)).0 t)))
    unequal false t = refl
by_causale q p differ false e f = (equal_exact (causale q) (causale p)).1 (ap causale (differs_false the_type tt q p (sym e ∙ f)))

pub returns-then-ne : goal.returns-then-ne
returns-then-ne c =
    let few : leb c.args.new.dispositions 256 ≡ true = le-leb _ _ c.if-new-gt-MOST_REQUESTS.false in
    rw (
      c.refused_call-then-ne.ensures,
      le-leb _ _ c.if-old-gt-MOST_REQUESTS.false,
      few,
      by_causale _ _ _ _ c.ne.ensures c.if-ne.true,
    )

pub returns-then-lent-lt-LEAST_MEMORY : goal.returns-then-lent-lt-LEAST_MEMORY
returns-then-lent-lt-LEAST_MEMORY c =
    let few : leb c.args.new.dispositions 256 ≡ true = le-leb _ _ c.if-new-gt-MOST_REQUESTS.false in
    rw (
      c.refused_call-then-lent-lt-LEAST_MEMORY.ensures,
      le-leb _ _ c.if-old-gt-MOST_REQUESTS.false,
      few,
      by_causale _ _ _ _ c.ne.ensures c.if-ne.false,
      lt-leb _ _ c.if-lent-lt-LEAST_MEMORY.true,
    )

pub returns : goal.returns
returns c =
    let few : leb c.args.new.dispositions 256 ≡ true = le-leb _ _ c.if-new-gt-MOST_REQUESTS.false in
    rw (
      le-leb _ _ c.if-old-gt-MOST_REQUESTS.false,
      few,
      by_causale _ _ _ _ c.ne.ensures c.if-ne.false,
      le-leb _ _ c.if-lent-lt-LEAST_MEMORY.false,
    )
