-- Pieces of text laid over a buffer: two that follow each other are one, and a piece by another name or under another limit.
use mathlib.Core.Path.{◌≡◌, ap, ◌∙◌}
use mathlib.Core.List.{List, ◌++◌}
use Prim.Native.Nat.{ℕ, ◌+◌, ◌≤◌}
use native.Mathlib.Omega.{arith}
use lib.ListN.{length, length-append}
use Rattle.rules.specs.Bytes.{splice}
use Rattle.rules.proofs.Splice.{splice_append}
use Rattle.line.specs.Laid.{Laid}

pub laid_then : {m k : ℕ} {a b c : List ℕ} {at next end : ℕ} {first second : List ℕ} → Laid m a b at next first → Laid k b c next end second
    → Laid (m + k) a c at end (first ++ second)
laid_then {m} {k} {a} {b} {c} {at} {next} {end} {first} {second} f s =
    record {
      left = s.left ∙ rw (f.left, f.ends) (splice_append a at first second);
      ends = rw length-append (omega (arith, f.ends, s.ends));
      short = rw length-append (omega (arith, f.short, s.short));
    }

pub laid_as : {m k : ℕ} {a b : List ℕ} {at next : ℕ} {first second : List ℕ} → first ≡ second → length first ≤ k → Laid m a b at next first → Laid k a b at next second
laid_as {a = a} {at = at} e h f =
    record {
      left = f.left ∙ ap (splice a at) e;
      ends = f.ends ∙ ap (λ (l : List ℕ). at + length l) e;
      short = rw e at h;
    }
