use Rattle.basics.specs.Core.{arith}
use Rattle.search.proofs.LevelPrices.{price_most, price_fits}
use Rattle.search.proofs.level_price.Goals as goal

pub overflow_add-result : goal.overflow_add-result
overflow_add-result c = omega (arith, price_most c.args.allowed.now)

pub overflow_mul-result : goal.overflow_mul-result
overflow_mul-result c =
    omega (arith, price_fits c.args.allowed.now c.args.level)
