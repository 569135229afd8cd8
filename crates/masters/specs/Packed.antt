-- What packing gives of what was read, and what it leaves at the front of the buffer for the packed form.
use Rattle.std.specs.Prelude.{ℕ, cond, List, length, nat_lt, Option, Some, None, Result, Ok, Err}
use Rattle.rules.specs.Bytes.{part, splice}
use Rattle.rules.specs.Outcome.{answer_of}
use Rattle.rules.specs.Calls.Pack.{pack_number, after_pack}
use Rattle.rules.specs.Refusal.{refusal_number}
use Rattle.rules.specs.declared.Layout.{Layout}
use Rattle.rules.specs.declared.refusal.Refusal.{Refusal}
use Rattle.rules.specs.Answers.Answer.{Answer}
use Rattle.rules.specs.Answers.Answer as answer
use Rattle.masters.specs.Master.{Master, Packed, Refused, Unread}

-- what the program has of it, in the numbers of packing
abbrev pub mastered : Option (Result ℕ Refusal) → Master
mastered (Some (Ok count)) = Packed count
mastered (Some (Err refusal)) = Refused (refusal_number refusal)
mastered None = Unread

-- by the answer of packing `count` bytes
unfoldable pub master_by : ℕ → Answer → Master
master_by count answer.Done = Packed count
master_by count (answer.Refused number) = Refused number

-- what is longer than the packed form can be is no volume
unfoldable pub master_of : Layout → Option ℕ → (source packed : List ℕ) → Master
master_of layout (Some count) source packed =
    cond (nat_lt (length packed) count) (Refused 1) (master_by count (answer_of (pack_number layout (part source 0 count) (part packed 0 count))))
master_of layout None source packed = Unread

unfoldable pub packed_over : Layout → Option ℕ → (source packed : List ℕ) → List ℕ
packed_over layout (Some count) source packed = cond (nat_lt (length packed) count) packed (splice packed 0 (after_pack layout (part source 0 count) (part packed 0 count)))
packed_over layout None source packed = packed
