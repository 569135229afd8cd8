-- What the iterator over the places of a chain has still to give, and a step of it.
use Rattle.std.specs.Prelude.{◌≡◌, Option, List, ◌++◌, ℕ, ◌+◌, ◌-◌, ◌<◌, IfSome}
use Rattle.std.specs.Iterator.{YieldsFirst}
use Rattle.rules.specs.Chain.{blocks, run, places_from}
use Rattle.descriptor.specs.declared.chain.Places.{Places}

unfoldable pub ahead : ℕ → ℕ → ℕ → List ℕ → List ℕ
ahead place left next chain = run place left ++ places_from next (blocks chain)

abbrev pub places_left : Places → List ℕ
places_left left = ahead left.place left.left left.next left.blocks.chain.now

-- its numbers stay small
abbrev pub Steady : Places → Type 0
Steady left = left.place + left.left < 8192

-- the iterator behind `many` sectors of its present block
abbrev pub past : Places → ℕ → Places
past left many = record { blocks = left.blocks; next = left.next; place = left.place + many; left = left.left - many }

-- the first of those that are left, or none where none is left; what is left of its block follows it
pub record NextPlace (left : Places) (place : Option ℕ) (behind : Places) : Type 0 where
  pub is : YieldsFirst places_left left place behind
  pub steady : Steady behind
  pub follows : IfSome place (λ k. (behind.place ≡ k + 1) × (k < 8192))
