-- What a catalogue entry answers: a refusal has a row beside it that says nothing.
use Rattle.rules.specs.Answers.Answer.{Answer}
use Rattle.rules.specs.declared.Row.{Row}

pub record Entry : Type 0 where
  pub answer : Answer
  pub row : Row
