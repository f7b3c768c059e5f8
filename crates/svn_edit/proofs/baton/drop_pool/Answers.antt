use Rattle.svn_edit.proofs.PoolStrings.{leaf_gone, not_refused}
use Rattle.svn_edit.proofs.baton.drop_pool.Goals as goal

pub returns-in-Ok : goal.returns-in-Ok
returns-in-Ok c = λ e live leaf apart. leaf_gone c.args.pools.now c.destroy.new.self c.args.pool.0 e live leaf c.in-Ok.ensures.destroyed

pub returns-in-Err : goal.returns-in-Err
returns-in-Err c = λ e live leaf apart. absurd (not_refused c.args.pools.now c.args.pool.0 e c.in-Err.field-0 live apart
    c.in-Err.ensures.settles)
