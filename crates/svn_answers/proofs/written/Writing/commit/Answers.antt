use Rattle.std.proofs.Common.{◌-◌, ◌^◌, ℕ, List, length, min, subst, sym, ap, ◌∙◌}
use Rattle.std.specs.Io.KnownBytes.{Appends}
use Rattle.svn_answers.specs.Written.{Counts, IsIn, WritingState}
use Rattle.svn_answers.proofs.Writings.{commit_made, counts_more}
use Rattle.svn_answers.proofs.written.Writing.commit.Goals as goal

pub returns-clause-committed : goal.returns-clause-committed
returns-clause-committed g c = λ s at.
    let bytes : List ℕ = c.commit.new.out.items in
    let made =
    commit_made c.self.inside.writer c.commit.new.self bytes c.new-bytes.result.items c.new-bytes.ensures.items c.in-Ok.ensures.commit
    c.in-Ok.ensures.written c.in-Ok.ensures.begun s
    (subst (λ (v : WritingState). IsIn s v.writer) (sym c.self.view_is) at) in (
      made.0,
      bytes,
      made.1,
      made.2,
      subst (λ (l : List ℕ). Appends (g.W.Write.contents c.args.output.now) (g.W.Write.contents c.write_bytes.new.output) l)
          c.deref.ensures.value c.in_ok-count.ensures.written,
      subst (λ (v : WritingState). Counts (length bytes) v.written c.saturating_add-self-inside.result) c.self.view_is
          (counts_more (length bytes) c.in_ok-count.count c.self.inside.written c.saturating_add-self-inside.result
          (c.in_ok-count.ensures.count ∙ ap (λ (l : List ℕ). min (length l) (2 ^ 64 - 1)) c.deref.ensures.value)
          c.saturating_add-self-inside.ensures),
    )
