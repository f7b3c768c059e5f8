use Rattle.std.proofs.Common.{◌++◌, List, ℕ, append_assoc, ap, ◌∙◌, subst}
use Rattle.svn_repo.specs.Readings.{entries_of}
use Rattle.svn_wire.specs.Writing.{text_bytes}
use Rattle.svn_replies.specs.Answers.{listed}
use Rattle.svn_replies.proofs.Entries.{AreBegun, begun_more, all_written}
use Rattle.svn_replies.proofs.session.View.push_entries.Goals as goal

pub loop-name-preserved : goal.loop-name-preserved
loop-name-preserved c =
    let s = c.args.self.now.served.now in
    let place = c.args.place.now in
    let all = entries_of s.repo c.args.node in
    let inv = c.loop-name.invariant in
    let one = c.in_ok-push_named_entry.ensures in
    let e : List ℕ × ℕ = (c.in-Some-2.name.now, c.in-Some-2.entry.now) in
    let bytes = listed (text_bytes e.0 ++ one.0) in (
      inv.0 ++ bytes,
      begun_more s place.rev place.path e c.next.new.self all inv.0 one.0
          (subst (λ (l : List (List ℕ × ℕ)). AreBegun s place.rev place.path l all inv.0) c.in-Some-2.ensures.steps inv.1) one.1,
      one.2 ∙ ap (λ (l : List ℕ). l ++ bytes) inv.2 ∙ append_assoc c.args.out.now.items inv.0 bytes,
    )

pub returns : goal.returns
returns c =
    let s = c.args.self.now.served.now in
    let place = c.args.place.now in
    let all = entries_of s.repo c.args.node in
    let inv = c.loop-name.invariant in (
      inv.0,
      all_written s place.rev place.path all inv.0
          (subst (λ (l : List (List ℕ × ℕ)). AreBegun s place.rev place.path l all inv.0) c.in-None.ensures.steps.0 inv.1),
      inv.2,
    )
