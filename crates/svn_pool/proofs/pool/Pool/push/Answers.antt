use Rattle.std.proofs.Common.{◌≡◌, ◌+◌, ◌≤◌, ◌<◌, ℕ, List, length, sym, ap, ◌∙◌, arith}
use Rattle.svn_pool.specs.Layout.{layout}
use Rattle.svn_pool.specs.Pools.{blocks_of}
use Rattle.svn_pool.specs.Stores.{Store}
use Rattle.svn_pool.proofs.Blocks.{fits_blocks, full_blocks}
use Rattle.svn_pool.proofs.pool.Pool.push.Goals as goal

abbrev blocks : List (List ℕ) → ℕ
blocks ss = (layout ss).fixed + (layout ss).large

pub returns-then-bytes-room-clause-blocks : goal.returns-then-bytes-room-clause-blocks
returns-then-bytes-room-clause-blocks g c =
    let s = c.self.inside.strings in
    let fits : length c.args.bytes.now + 4 ≤ (layout s).room = omega (arith, c.room.ensures, c.if-bytes-room.true) in
    let before : blocks_of c.args.self.now ≡ blocks s = ap blocks_of (sym c.self.view_is) in
    let after : blocks c.write.new.strings ≡ blocks s = ap blocks c.write.ensures.written ∙ fits_blocks s c.args.bytes.now fits in
    let same : c.write.new.self.used ≡ c.args.stock.now.used = ap (λ (b : Store). b.used) c.write.ensures.counts in
    omega (arith, before, after, same)

pub returns-clause-blocks : goal.returns-clause-blocks
returns-clause-blocks g c =
    let s = c.self.inside.strings in
    let room : (layout s).room < length c.args.bytes.now + 4 = omega (arith, c.room.ensures, c.if-bytes-room.false) in
    let before : blocks_of c.args.self.now ≡ blocks s = ap blocks_of (sym c.self.view_is) in
    let after : blocks c.write_new.new.self ≡ blocks s + 1 =
    ap blocks c.write_new.ensures ∙ full_blocks s c.args.bytes.now (λ h. omega (arith, h, room)) in
    let took : c.take.new.self.used ≡ c.args.stock.now.used + 1 = ap (λ (b : Store). b.used) c.in_ok-leaf.ensures.counts in
    omega (arith, before, after, took)
