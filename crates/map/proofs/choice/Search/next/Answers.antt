-- `map::choice::Search::next` meets its contract: the search goes on where it came to, and what it passes over is taken. Assumes nothing.
use mathlib.Core.Path.{sym, ◌∙◌}
use native.Mathlib.Omega.{arith}
use borrow.Author.Tests.{lt-ltb, le-ltb}
use Rattle.rules.proofs.Choice.{data_choice_high, data_choice_full}
use Rattle.map.proofs.SearchLaws.{high_is, low_is, searched_high, searched_low}
use Rattle.map.proofs.choice.Search.next.Goals as goal

pub returns-then-high-lt1600 : goal.returns-then-high-lt1600
returns-then-high-lt1600 c =
    let a = c.args in
    let f = c.lowest_free-high in
    let e = f.ensures.0 ∙ high_is a.sector0.now a.self c.requires in (
      e ∙ sym (data_choice_high a.sector0.now (omega (arith, e, c.if-high-lt1600.true))),
      searched_high a.sector0.now a.self c.requires _ _ f.ensures.0,
      f.ensures.1,
      e,
      rw (lt-ltb f.result 1600 c.if-high-lt1600.true),
    )

pub returns : goal.returns
returns c =
    let a = c.args in
    let f = c.lowest_free-high in
    let e = f.ensures.0 ∙ high_is a.sector0.now a.self c.requires in
    let g = c.lowest_free-lowest.ensures.0 ∙ low_is a.sector0.now a.self c.requires in (
      g ∙ sym (data_choice_full a.sector0.now (omega (arith, e, c.if-high-lt1600.false))),
      searched_low a.sector0.now (record { sector = 0; high = f.result; low = a.self.low }) (searched_high a.sector0.now a.self c.requires _ _ f.ensures.0) _ _ c.lowest_free-lowest.ensures.0,
      omega (arith, c.lowest_free-lowest.ensures.1),
      e,
      rw (le-ltb f.result 1600 c.if-high-lt1600.false),
    )
