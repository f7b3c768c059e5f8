use Rattle.std.proofs.Common.{◌≡◌, ℕ, List, length, sym, ap, subst, ◌∙◌}
use Rattle.svn_pool.specs.Frames.{Contents, IsFramed, unframe}
use Rattle.svn_pool.proofs.Frames.{unframe-length}
use Rattle.svn_pool.proofs.page.Page.bytes.Goals as goal

pub returns-clause-framed : goal.returns-clause-framed
returns-clause-framed g c =
    let p = c.self.inside in
    let count : p.count ≡ length c.args.self.now.strings =
    sym (unframe-length p.count p.memory.bytes) ∙ ap (λ (v : Contents). length v.strings) c.self.view_is in
    subst (λ (x : ℕ × List ℕ). IsFramed x.0 x.1) (λ i. (count i, sym c.bytes.ensures i)) c.self.invariant.1

pub returns-clause-strings : goal.returns-clause-strings
returns-clause-strings g c =
    let p = c.self.inside in
    let count : p.count ≡ length c.args.self.now.strings =
    sym (unframe-length p.count p.memory.bytes) ∙ ap (λ (v : Contents). length v.strings) c.self.view_is in
    (λ i. unframe (sym count i) (c.bytes.ensures i)) ∙ ap (λ (v : Contents). v.strings) c.self.view_is
