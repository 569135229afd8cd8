-- `listing::fields::put_kind` meets its contract: in each case of the kind the bytes laid are its word and a space. Assumes nothing.
use native.Mathlib.Omega.{arith}
use Rattle.rules.specs.Calls.Listing.{kind_word}
use Rattle.line.proofs.LaidLaws.{laid_as}
use Rattle.listing.proofs.fields.put_kind.Goals as goal

pub returns-in-Program : goal.returns-in-Program
unfolding kind_word
returns-in-Program c =
    laid_as (rw c.in-Program.is) (omega arith) c.put.ensures

pub returns-in-Fixed-default-true : goal.returns-in-Fixed-default-true
unfolding kind_word
returns-in-Fixed-default-true c =
    laid_as (rw (c.in-Fixed-default-true.is, c.in-Fixed-default-true.internal-test)) (omega arith) c.put-in-Fixed-default-true.ensures

pub returns-in-Fixed-default-false : goal.returns-in-Fixed-default-false
unfolding kind_word
returns-in-Fixed-default-false c =
    laid_as (rw (c.in-Fixed-default-false.is, c.in-Fixed-default-false.internal-test)) (omega arith) c.put-in-Fixed-default-false.ensures

pub returns-in-Variable-default-true : goal.returns-in-Variable-default-true
unfolding kind_word
returns-in-Variable-default-true c =
    laid_as (rw (c.in-Variable-default-true.is, c.in-Variable-default-true.internal-test)) (omega arith) c.put-in-Variable-default-true.ensures

pub returns-in-Variable-default-false : goal.returns-in-Variable-default-false
unfolding kind_word
returns-in-Variable-default-false c =
    laid_as (rw (c.in-Variable-default-false.is, c.in-Variable-default-false.internal-test)) (omega arith) c.put-in-Variable-default-false.ensures
