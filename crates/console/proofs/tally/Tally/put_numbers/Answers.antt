-- `console::tally::Tally::put_numbers` meets its contract: a turn lays a count behind those that are laid. Assumes nothing.
use mathlib.Core.Path.{◌≡◌, refl, sym, ap}
use mathlib.Core.List.{List, ◌++◌}
use Prim.Native.Nat.{ℕ, suc, ◌+◌, ◌<◌}
use native.Mathlib.Omega.{arith}
use native.Mathlib.Numerals.{add-one}
use lib.ListN.{set}
use Rattle.rules.specs.Bytes.{byte_at, part}
use Rattle.rules.proofs.Bytes.{part_at}
use Rattle.rules.proofs.Splice.{splice_none}
use Rattle.line.proofs.LaidLaws.{laid_as, laid_then}
use Rattle.console.specs.Tally.{count_text, numbers_text}
use Rattle.console.proofs.Numbers.{called, told, told_all}
use Rattle.console.proofs.tally.Tally.put_numbers.Goals as goal

-- the words of a turn, and those of the next one, by the digit that they get; what is told with it
module _ (tally : List ℕ) {words : List ℕ} (k : ℕ) (is : words ≡ called (48 + k)) where
  digit : byte_at words 10 ≡ 48 + k
  digit = ap (λ (l : List ℕ). byte_at l 10) is

  module _ {next : ℕ} (further : next ≡ 48 + k + 1) where
    next_called : set words 10 next ≡ called (48 + (k + 1))
    next_called = let same : 48 + k + 1 ≡ 48 + (k + 1) = omega arith in rw (is, further, same) refl

    one_more : k < 6 → told tally k ++ count_text (byte_at (part tally 1 6) k) (set words 10 next) ≡ told tally (k + 1)
    one_more low = let next : 1 + k ≡ suc k = omega arith in rw (next_called, part_at tally 1 6 k low, next, add-one k) refl

pub loop-count-init : goal.loop-count-init
loop-count-init c = record { words = refl; laid = record { left = sym (splice_none _ _); ends = omega arith; short = omega arith } }

pub overflow_add-words : goal.overflow_add-words
overflow_add-words c = let d = digit c.args.self.now.counts c.loop-count.count-index c.loop-count.invariant.words in omega (arith, d)

pub loop-count-preserved : goal.loop-count-preserved
loop-count-preserved c =
    let l = c.loop-count in
    let tally = c.args.self.now.counts in
    let laid = laid_then l.invariant.laid c.put_count-next.ensures in
    let d = digit tally l.count-index l.invariant.words in
    record {
      words = next_called tally l.count-index l.invariant.words (omega (arith, d));
      laid = laid_as (one_more tally l.count-index l.invariant.words (omega (arith, d)) (omega arith)) (omega (arith, laid.short)) laid;
    }

pub returns : goal.returns
returns c =
    let l = c.loop-count in
    let all : l.count-index ≡ 6 = omega arith in
    let is : told c.args.self.now.counts l.count-index ≡ numbers_text c.args.self.now.counts = rw all (told_all c.args.self.now.counts) in
    laid_as is (omega (arith, l.invariant.laid.short, all)) l.invariant.laid
