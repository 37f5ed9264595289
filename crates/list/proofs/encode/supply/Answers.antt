-- `list::supply` meets its contract. Assumes nothing.
use Prim.Native.Nat.{ℕ}
use mathlib.Core.List.{List, [], ◌∷◌}
use mathlib.Core.Path.{◌≡◌, refl, sym, ◌∙◌, ap}
use Rattle.records.specs.Kinds.{Heads, Opens, Closes, role}
use Rattle.records.specs.declared.flow_kind.FlowKind.{FlowKind}
use Rattle.records.specs.declared.kind.RecordKind.{RecordKind}
use Rattle.records.specs.declared.kind.RecordKind.TheVariants.{Im, R14, R16, R20, R30, R40, R50, R59, R51, R70, Ef}
use Rattle.list.specs.Encode.{Placed, place, fill, supplied}
use Rattle.list.proofs.Filling.{Fills, fills_none, fills_place}
use Rattle.list.proofs.encode.supply.Goals as goal

pub returns-in-Im : goal.returns-in-Im
returns-in-Im c =
    let rec = c.args.rec.now in
    let abi = c.args.abi.now in
    let all : Fills (supplied Heads c.args.flow c.args.number.now abi) rec c.place.new.out = fills_place c.place.ensures refl fills_none in
    all.done ∙ ap (λ (k : RecordKind). fill (supplied (role k) c.args.flow c.args.number.now abi) rec) (sym c.in-Im.is)

pub returns-in-R14 : goal.returns-in-R14
returns-in-R14 c =
    let rec = c.args.rec.now in
    let abi = c.args.abi.now in
    let all : Fills (supplied Opens c.args.flow c.args.number.now abi) rec c.place-in-R14-5.new.out =
    fills_place c.place-in-R14.ensures refl
    (fills_place c.place-in-R14-2.ensures c.causale_of-causale.ensures
    (fills_place c.place-in-R14-3.ensures c.sign_of-sign.ensures (fills_place c.place-in-R14-4.ensures refl (fills_place c.place-in-R14-5.ensures refl fills_none)))) in
    all.done ∙ ap (λ (k : RecordKind). fill (supplied (role k) c.args.flow c.args.number.now abi) rec) (sym c.in-R14.is)

pub returns-in-Ef : goal.returns-in-Ef
returns-in-Ef c =
    let rec = c.args.rec.now in
    let abi = c.args.abi.now in
    let all : Fills (supplied Closes c.args.flow c.args.number.now abi) rec rec = fills_none in
    all.done ∙ ap (λ (k : RecordKind). fill (supplied (role k) c.args.flow c.args.number.now abi) rec) (sym c.in-Ef.is)

-- every other kind has its number alone
numbered :
    (q : FlowKind) (number abi : List ℕ) (k : RecordKind) → ¬ (k ≡ Im) → ¬ (k ≡ R14) → ¬ (k ≡ Ef) → place 4 number ∷ [] ≡ supplied (role k) q number abi
numbered q number abi Im im r14 ef = absurd (im refl)
numbered q number abi R14 im r14 ef = absurd (r14 refl)
numbered q number abi R16 im r14 ef = refl
numbered q number abi R20 im r14 ef = refl
numbered q number abi R30 im r14 ef = refl
numbered q number abi R40 im r14 ef = refl
numbered q number abi R50 im r14 ef = refl
numbered q number abi R59 im r14 ef = refl
numbered q number abi R51 im r14 ef = refl
numbered q number abi R70 im r14 ef = refl
numbered q number abi Ef im r14 ef = absurd (ef refl)

pub returns-in_default : goal.returns-in_default
returns-in_default c =
    let number = c.args.number.now in
    let rec = c.args.rec.now in
    let all : Fills (place 4 number ∷ []) rec c.place-in_default.new.out = fills_place c.place-in_default.ensures refl fills_none in
    all.done ∙ ap (λ (ps : List Placed). fill ps rec) (numbered c.args.flow number c.args.abi.now c.args.kind c.in_default.not-Im c.in_default.not-R14 c.in_default.not-Ef)
