-- What an argument asks for, by its length and its bytes. Assumes nothing.
use mathlib.Core.Path.{◌≡◌, refl, ap}
use mathlib.Core.Bool.{Bool, true, false, cond, ◌&&◌}
use mathlib.Core.List.{List, [], ◌∷◌}
use Prim.Native.Nat.{ℕ, suc}
use lib.Chars.{codes}
use lib.Dec.{eqb, ltb, eqb-suc-suc, eqb-suc-zero, eqb-zero-suc}
use lib.ListN.{length}
use borrow.Author.Tests.{eqb-true}
use Rattle.rules.specs.Bytes.{byte_at, same}
use Rattle.line.specs.Letters.{letters}
use Rattle.console.specs.Options.{image_or, word_of}
use Rattle.console.specs.declared.options.Word.{Word}
use Rattle.console.specs.declared.options.Word.TheVariants.{Help, Verbose, Sums, Marks, Directories, End, Unknown, Image}

-- whether the text stands in the bytes from k on
abbrev pub reads : List ℕ → ℕ → List ℕ → Bool
reads bytes k [] = true
reads bytes k (c ∷ text) = eqb (byte_at bytes k) c && reads bytes (suc k) text

reads_behind : (b : ℕ) (bytes : List ℕ) (k : ℕ) (text : List ℕ) → reads (b ∷ bytes) (suc k) text ≡ reads bytes k text
reads_behind b bytes k [] = refl
reads_behind b bytes k (c ∷ text) = ap (λ (rest : Bool). eqb (byte_at bytes k) c && rest) (reads_behind b bytes (suc k) text)

exchanged : (a b c : Bool) → (a && (b && c)) ≡ (b && (a && c))
exchanged true b c = refl
exchanged false true c = refl
exchanged false false c = refl

-- the test of a text is that of its length and of each of its bytes
same_reads : (bytes text : List ℕ) → same bytes text ≡ (eqb (length bytes) (length text) && reads bytes 0 text)
unfolding same
same_reads [] [] = refl
same_reads [] (c ∷ text) = rw (eqb-zero-suc (length text)) refl
same_reads (b ∷ bytes) [] = rw (eqb-suc-zero (length bytes)) refl
same_reads (b ∷ bytes) (c ∷ text) =
    rw (eqb-suc-suc (length bytes) (length text), reads_behind b bytes 0 text, same_reads bytes text)
    (exchanged (eqb b c) (eqb (length bytes) (length text)) (reads bytes 0 text))

-- the tests in their order, and those of the length first
module _ (h help v sums marks directories end : Bool) (image : Word) where
  abbrev in_order : ℕ → Word
  in_order n =
      cond (eqb n 2 && h) Help
      (cond (eqb n 6 && help) Help
      (cond (eqb n 2 && v) Verbose
      (cond (eqb n 6 && sums) Sums
      (cond (eqb n 7 && marks) Marks
      (cond (eqb n 13 && directories) Directories
      (cond (eqb n 2 && end) End
      image))))))

  abbrev pub by_length : ℕ → Word
  by_length n =
      cond (eqb n 13) (cond directories Directories image)
      (cond (eqb n 7) (cond marks Marks image)
      (cond (eqb n 6) (cond help Help (cond sums Sums image))
      (cond (eqb n 2) (cond h Help (cond v Verbose (cond end End image)))
      image)))

  ordered : (n : ℕ) → in_order n ≡ by_length n
  ordered n = go (eqb n 2) (eqb n 6) (eqb n 7) (eqb n 13) refl refl refl refl
    where
      go : (two six seven thirteen : Bool) → eqb n 2 ≡ two → eqb n 6 ≡ six → eqb n 7 ≡ seven → eqb n 13 ≡ thirteen → in_order n ≡ by_length n
      go true six seven thirteen is _ _ _ = rw (eqb-true n 2 is) refl
      go false true seven thirteen _ is _ _ = rw (eqb-true n 6 is) refl
      go false false true thirteen _ _ is _ = rw (eqb-true n 7 is) refl
      go false false false true _ _ _ is = rw (eqb-true n 13 is) refl
      go false false false false two six seven thirteen = rw (two, six, seven, thirteen) refl

pub word_by_bytes : (argument : List ℕ) → word_of argument ≡
    by_length
    (reads argument 0 (codes "-h"))
    (reads argument 0 (codes "--help"))
    (reads argument 0 (codes "-v"))
    (reads argument 0 (codes "--sums"))
    (reads argument 0 (codes "--marks"))
    (reads argument 0 (codes "--directories"))
    (reads argument 0 (codes "--"))
    (cond (eqb (byte_at argument 0) 0x2D) (cond (ltb 1 (length argument)) Unknown Image) Image)
    (length argument)
unfolding word_of image_or letters
word_by_bytes argument = simp same_reads (ordered _ _ _ _ _ _ _ _ (length argument))
