use Rattle.std.proofs.Common.{◌≡◌, ◌≢◌, ap, length, true, rules, sym, ◌∙◌}
use Rattle.svn_commands.specs.Log.{is_full, is_logged}
use Rattle.svn_commands.proofs.Logged.{one_nearer, enough_found, more_found}
use Rattle.svn_commands.proofs.log.logged.Goals as goal

pub returns-then-is_full : goal.returns-then-is_full
returns-then-is_full c =
    let limit = c.args.asked.now.wanted.limit in
    let new = c.push_if_logged.new.found.items in
    let inv = c.revs.invariant in
    let count : c.len.result ≡ length new = search rules in
    let full : is_full limit (length new) ≡ true = ap (is_full limit) (sym count) ∙ sym c.is_full.ensures ∙ c.if-is_full.true in
    sym (inv.same
    ∙ enough_found (is_logged c.args.view.served.now c.args.segments.now) limit c.le-younger.result c.revs.rev c.args.asked.now.end c.revs.found.items new
    inv.room c.in_ok-push_if_logged.ensures full)

pub revs-preserved : goal.revs-preserved
revs-preserved c =
    let limit = c.args.asked.now.wanted.limit in
    let end = c.args.asked.now.end in
    let new = c.push_if_logged.new.found.items in
    let next = c.next_rev-rev.result in
    let inv = c.revs.invariant in
    let count : c.len.result ≡ length new = search rules in
    let other : c.revs.rev ≢ end = search rules in
    let nearer = one_nearer c.le-younger.result c.revs.rev end next other inv.up inv.down c.next_rev-rev.ensures in
    record {
      up = nearer.up;
      down = nearer.down;
      room = ap (is_full limit) (sym count) ∙ sym c.is_full.ensures ∙ c.if-is_full.false;
      same = inv.same
          ∙ more_found (is_logged c.args.view.served.now c.args.segments.now) limit c.le-younger.result c.revs.rev end c.revs.found.items new inv.room
          c.in_ok-push_if_logged.ensures next c.next_rev-rev.ensures nearer;
    }
