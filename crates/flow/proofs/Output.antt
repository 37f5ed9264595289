-- What a call that fills an output comes to, whatever it tells. Assumes nothing.
use Prim.Native.Nat.{◌+◌, ◌≤◌, ◌<◌}
use mathlib.Core.Bool.{Bool, true, false, cond}
use mathlib.Core.Logic.{◌⊎◌, inl, inr}
use mathlib.Core.Path.{◌≡◌, refl, sym, ◌∙◌, ap, subst}
use native.Mathlib.Omega.{arith}
use lib.Dec.{leb}
use lib.ListN.{length}
use borrow.Author.Tests.{leb-true, leb-false, le-leb, lt-leb}
use Rattle.sequences.proofs.Part.{part-put, drop-put}
use Rattle.flow.specs.Laws.{OutputLeaves, RoomExact}
use Rattle.flow.specs.Output.{output, with_room, FilledWith, LeftAlone}
use Rattle.flow.specs.Verdict.{Verdict, accepted, refused, of_call}
use Rattle.flow.specs.Verdict.{Refusal}
use Rattle.flow.proofs.Accepted.{accepted-not-refused, refused-same}

pub output_leaves : OutputLeaves
output_leaves A v bytes out = (answered v, accepts, λ x e. subst (λ (u : Verdict A). LeftAlone (output u bytes out) out) (sym e) (refl, refl))
  where
    answered : (v : Verdict A) → (output v bytes out).answer ≡ v
    answered (accepted a) = refl
    answered (refused x) = refl

    accepts : (a : A) → v ≡ accepted a → length bytes ≤ length out → FilledWith (output v bytes out) bytes out
    accepts a e fits =
        let within : 0 + length bytes ≤ length out = omega arith in
        subst (λ (u : Verdict A). FilledWith (output u bytes out) bytes out) (sym e)
        (record { length-said = refl; front = part-put 0 bytes out within; after = drop-put 0 bytes out within (length bytes) (omega arith) })

pub room_exact : RoomExact
room_exact A v size room = (λ a. (accepts a v refl, λ (e, fits). rw (e, le-leb size room fits)), λ x. (refuses x v refl, back x))
  where
    Short : Refusal → Type 0
    Short x = (a : A) × (v ≡ accepted a) × (room < size) × (x ≡ of_call 21)

    accepts : (a : A) (u : Verdict A) → v ≡ u → with_room u size room ≡ accepted a → (v ≡ accepted a) × (size ≤ room)
    accepts a (accepted b) e = by (leb size room) refl
      where
        by : (t : Bool) → leb size room ≡ t → cond t (accepted b) (refused (of_call 21)) ≡ accepted a → (v ≡ accepted a) × (size ≤ room)
        by true t same = (e ∙ same, leb-true size room t)
        by false t same = absurd (accepted-not-refused same)
    accepts a (refused x) e = λ same. absurd (accepted-not-refused same)

    refuses : (x : Refusal) (u : Verdict A) → v ≡ u → with_room u size room ≡ refused x → (v ≡ refused x) ⊎ Short x
    refuses x (accepted a) e = by (leb size room) refl
      where
        by : (t : Bool) → leb size room ≡ t → cond t (accepted a) (refused (of_call 21)) ≡ refused x → (v ≡ refused x) ⊎ Short x
        by true t same = absurd (accepted-not-refused (sym same))
        by false t same = inr (a, e, leb-false size room t, sym (refused-same same))
    refuses x (refused y) e = λ same. inl (e ∙ same)

    back : (x : Refusal) → (v ≡ refused x) ⊎ Short x → with_room v size room ≡ refused x
    back x (inl e) = rw e
    back x (inr o) =
        let over : leb size room ≡ false = lt-leb size room o.2 in
        rw (o.1, over) (ap refused (sym o.3))
