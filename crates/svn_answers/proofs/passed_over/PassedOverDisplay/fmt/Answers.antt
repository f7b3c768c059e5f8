use Rattle.std.proofs.Common.{ℕ, ◌+◌, ◌<◌, Bool, true, List, length, take, ap, refl, subst, sym}
use Rattle.std.specs.declared.fmt.Formatter.{Formatter}
use Rattle.std.specs.List.{flat_map}
use Rattle.svn_answers.specs.declared.passed_over.Count.{Count}
use Rattle.svn_answers.specs.PassedOver.{count_texts}
use Rattle.svn_answers.proofs.Listing.{AreWritten, none_written, one_written}
use Rattle.svn_answers.proofs.passed_over.PassedOverDisplay.fmt.Goals as goal
use Rattle.svn_answers.proofs.passed_over.PassedOverDisplay.fmt.Goals.{then-count-gt0+in_ok-write_count, else-count-gt0}

pub loop-count-preserved : goal.loop-count-preserved
loop-count-preserved g c =
    let took = g.W.Write.write_str_gives in
    let xs = c.counts.result in
    let i = c.loop-count.count-index in
    let f = c.args.f.now in
    let within : i < length xs = subst (λ (n : ℕ). i < n) (ap (λ (l : List Count). length l) (sym c.counts.ensures)) c.loop-count-test.true in
    let texts = flat_map count_texts (take (i + 1) xs) in
    elim c.if-count-gt0.branch [
      | then-count-gt0+in_ok-write_count w ↦ subst (λ (h : Formatter g.row.W.Denot). AreWritten took f texts h c.if-count-gt0.more) (sym w.f-is)
          (subst (λ (more : Bool). AreWritten took f texts w.write_count.new.f more) (sym w.more-is)
          (one_written took f c.loop-count.f w.write_count.new.f xs i _ c.loop-count.more within w.if-count-gt0.true c.loop-count.invariant
          (λ plain. w.in_ok-write_count.ensures plain (refl {a = true}))))
      | else-count-gt0 w ↦ subst (λ (h : Formatter g.row.W.Denot). AreWritten took f texts h c.if-count-gt0.more) (sym w.f-is)
          (subst (λ (more : Bool). AreWritten took f texts c.loop-count.f more) (sym w.more-is)
          (none_written took f c.loop-count.f xs i _ c.loop-count.more within w.if-count-gt0.false c.loop-count.invariant))
    ]
