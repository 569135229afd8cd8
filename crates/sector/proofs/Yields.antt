-- An iterator that gives the first of what is left comes nearer to its end with each.
use mathlib.Core.List.{List}
use Prim.Native.Nat.{◌<◌}
use native.Mathlib.Omega.{arith}
use lib.ListN.{length}
use Rattle.std.specs.Prelude.{Option, None, Some}
use Rattle.std.specs.Iterator.{YieldsFirst, MakesProgress, item_count}
use Rattle.std.specs.declared.iter.Iterator.{can_next-default}

-- where it may be called again
pub steps_progress : {S A : Type 0} (can : S → Type 0) (rest : S → List A) (s : S) (r : Option A) (t : S) → YieldsFirst rest s r t → can t → MakesProgress can (item_count rest) s r t
steps_progress can rest s None t e may = record { on = λ finite. tt; keeps = tt; rests = λ finite. tt }
steps_progress can rest s (Some x) t e may =
    let less : length (rest t) < length (rest s) = rw e (omega arith) in
    record { on = λ finite. (may, tt, less); keeps = may; rests = λ finite. tt }

-- which it mostly may
pub yields_progress : {S A : Type 0} (rest : S → List A) (s : S) (r : Option A) (t : S) → YieldsFirst rest s r t → MakesProgress (can_next-default S A) (item_count rest) s r t
yields_progress {S} {A} rest s r t e = steps_progress (can_next-default S A) rest s r t e tt
