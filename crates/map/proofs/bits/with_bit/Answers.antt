-- `map::bits::with_bit` meets its contract: shifted, the old bit is no more than the byte, and with the new one the sum is the definition's, a byte. Assumes nothing.
use Rattle.map.proofs.BitLaws.{old_fits, bit_made, new_fits}
use Rattle.std.proofs.Common.{rules}
use Rattle.map.proofs.bits.with_bit.Goals as goal

pub returns : goal.returns
returns c = bit_made _ _ (search rules) _ (search rules)

pub overflow_sub-result : goal.overflow_sub-result
overflow_sub-result c = old_fits _ _ (search rules)

pub overflow_add-result : goal.overflow_add-result
overflow_add-result c = record { fits = new_fits _ _ (search rules) _ (search rules) (search rules) }
