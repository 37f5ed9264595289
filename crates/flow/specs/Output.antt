-- What a call that fills an output answers and leaves, whatever it tells where it is accepted (document 01, "Our request list": the length
-- written is returned and the output beyond it left unchanged; 21 where the output is too short). Assumes nothing.
use Rattle.std.specs.Prelude.{ℕ, cond, List, ◌≡◌, leb, length, take, drop}
use Rattle.sequences.specs.Part.{put}
use Rattle.flow.specs.Verdict.{Verdict, accepted, refused, of_call, and_then}

-- the answer, the length written, and the output afterwards
pub record Output (A : Type 0) : Type 0 where
  pub answer : Verdict A
  pub written : ℕ
  pub bytes : List ℕ

-- an accepted call writes the bytes at the front of the output; a refused one writes nothing, and its length is 0
abbrev pub output : {A : Type 0} → Verdict A → List ℕ → List ℕ → Output A
output (accepted a) bytes out = record { answer = accepted a; written = length bytes; bytes = put 0 bytes out }
output (refused x) bytes out = record { answer = refused x; written = 0; bytes = out }

-- the answer of a call that has so many bytes to write and so much room, where 21 comes last
abbrev pub with_room : {A : Type 0} → Verdict A → ℕ → ℕ → Verdict A
with_room {A} v size room = and_then v (λ (a : A). cond (leb size room) (accepted a) (refused (of_call 21)))

-- what a call leaves in the output: bytes at its front and the rest as it was, or all of it as it was
pub record FilledWith {A : Type 0} (o : Output A) (bytes out : List ℕ) : Type 0 where
  pub length-said : o.written ≡ length bytes
  pub front : take o.written o.bytes ≡ bytes
  pub after : drop o.written o.bytes ≡ drop o.written out

abbrev pub LeftAlone : {A : Type 0} → Output A → List ℕ → Type 0
LeftAlone o out = (o.written ≡ 0) × (o.bytes ≡ out)
