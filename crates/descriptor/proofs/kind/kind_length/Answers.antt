-- `descriptor::kind::kind_length` meets its contract, case by case. Assumes nothing.
use Rattle.rules.specs.Calls.Listing.{kind_length}
use Rattle.descriptor.proofs.kind.kind_length.Goals as goal

pub returns-in-Program : goal.returns-in-Program
unfolding kind_length
returns-in-Program c = rw c.in-Program.is

pub returns-in-Fixed : goal.returns-in-Fixed
unfolding kind_length
returns-in-Fixed c = rw c.in-Fixed.is

pub returns-in-Variable : goal.returns-in-Variable
unfolding kind_length
returns-in-Variable c = rw c.in-Variable.is
