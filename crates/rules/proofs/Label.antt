-- Sector 0's rule, as a test and as facts.
use mathlib.Core.Path.{◌≡◌}
use mathlib.Core.Bool.{true, ◌&&◌}
use mathlib.Core.List.{List}
use Prim.Native.Nat.{ℕ}
use lib.Dec.{eqb}
use borrow.Author.Tests.{eq-eqb, eqb-true}
use Rattle.rules.specs.Bytes.{byte_at, word_at, part}
use Rattle.rules.specs.Name.{name_rule}
use Rattle.rules.specs.Label.{label_rule, IsLabel}
use Rattle.rules.proofs.Tests.{both}
use Rattle.rules.proofs.Name.{name_is, is_name}

pub label_is : (n : ℕ) (sector0 : List ℕ) → label_rule n sector0 ≡ true → IsLabel n sector0
unfolding label_rule
label_is n sector0 e =
    let d = eqb (byte_at sector0 13) 0x44 in
    let s = eqb (byte_at sector0 14) 0x53 in
    let k = eqb (byte_at sector0 15) 0x4B in
    let named = both (name_rule (part sector0 0 10)) (eqb (word_at sector0 10) n && (d && (s && k))) e in
    let counted = both (eqb (word_at sector0 10) n) (d && (s && k)) named.1 in
    let first = both d (s && k) counted.1 in
    let second = both s k first.1 in
    record {
      name = name_is (part sector0 0 10) named.0;
      count = eqb-true (word_at sector0 10) n counted.0;
      dsk = (eqb-true _ _ first.0, eqb-true _ _ second.0, eqb-true _ _ second.1);
    }

pub is_label : (n : ℕ) (sector0 : List ℕ) → IsLabel n sector0 → label_rule n sector0 ≡ true
unfolding label_rule
is_label n sector0 is =
    rw (is_name (part sector0 0 10) is.name, eq-eqb (word_at sector0 10) n is.count, eq-eqb (byte_at sector0 13) 0x44 is.dsk.0, eq-eqb (byte_at sector0 14) 0x53 is.dsk.1, eq-eqb (byte_at sector0 15) 0x4B is.dsk.2)
