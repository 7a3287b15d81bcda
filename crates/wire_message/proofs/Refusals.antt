-- What refuses bytes is told as it was found.
use Rattle.std.proofs.Common.{◌≡◌, ℕ, ◌≤◌, List, length, slice_index, Some, Result, Err, arith}
use Rattle.std.proofs.lemmas.Bool.Decides.{nat_tests}
use Rattle.wire_number.specs.declared.endian.Endian.{Endian}
use Rattle.wire_message.specs.Front.{order_code}
use Rattle.wire_message.specs.Outcome.{head_fault, front_outcome, Tells}
use Rattle.wire_message.specs.Whole.{whole_outcome}
use Rattle.wire_message.specs.declared.error.Error.{Error}
use Rattle.wire_message.specs.declared.error.Error.TheVariants as errors
use Rattle.wire_message.specs.declared.error.IoKind.{IoKind}
use Rattle.wire_message.specs.declared.error.IoKind.TheVariants as kinds

pub told : {A B : Type 0} (view : A → B) (outcome : Result B Error) (error : Error) → outcome ≡ Err error → Tells view (Err error) outcome
told view outcome errors.Memory e = tt
told view outcome error e = e

-- what a part refuses, the whole refuses
pub told-of : {A B C D : Type 0} (inner : A → B) (view : C → D) (found : Result B Error) (outcome : Result D Error) (error : Error) → Tells inner (Err error) found
    → (found ≡ Err error → outcome ≡ Err error) → Tells view (Err error) outcome
told-of inner view found outcome errors.Memory t h = tt
told-of inner view found outcome error t h = h t

pub head-refused : (bytes : List ℕ) (ending : IoKind) (error : Error) → 16 ≤ length bytes → head_fault bytes ≡ Some error → front_outcome bytes ending ≡ Err error
head-refused bytes ending error h e = grind (arith, nat_tests)

pub whole-refused : (order : Endian) (bytes : List ℕ) (error : Error) → 16 ≤ length bytes → slice_index bytes 0 ≡ order_code order
    → front_outcome bytes kinds.Ended ≡ Err error → whole_outcome order bytes ≡ Err error
whole-refused order bytes error h o e = grind (arith, nat_tests)
