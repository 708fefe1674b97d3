-- `flash::block_of` meets its contract: its tests send each page to low flash, to high flash or outside, and in a region the block and the place are reckoned as the law of a region has them.
use Rattle.std.proofs.Common.{arith}
use Rattle.flash.proofs.Split.{low, high, in_region, in_no_region}
use Rattle.flash.proofs.block_of.Goals as goal

pub returns-then-page-lt32 : goal.returns-then-page-lt32
returns-then-page-lt32 c = in_no_region _ (λ p q. omega arith) (λ p q. omega arith)

pub returns-then-page-gt47 : goal.returns-then-page-gt47
returns-then-page-gt47 c = in_no_region _ (λ p q. omega arith) (λ p q. omega arith)

pub returns-then-page-lt192 : goal.returns-then-page-lt192
returns-then-page-lt192 c = in_region _ _ _ _ low _ _ _ (omega arith) (omega arith) (omega arith) (omega arith) (omega arith)

pub returns-then-page-gt255 : goal.returns-then-page-gt255
returns-then-page-gt255 c = in_no_region _ (λ p q. omega arith) (λ p q. omega arith)

pub returns : goal.returns
returns c = in_region _ _ _ _ high _ _ _ (omega arith) (omega arith) (omega arith) (omega arith) (omega arith)
