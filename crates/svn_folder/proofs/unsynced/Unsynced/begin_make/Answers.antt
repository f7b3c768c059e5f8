use Rattle.std.proofs.Common.{ℕ, sym, subst}
use Rattle.std.specs.Prelude.{Option}
use Rattle.svn_folder.specs.declared.unsynced.Unsynced.{Unsynced}
use Rattle.svn_folder.specs.declared.step.Step.TheVariants.{Make}
use Rattle.svn_folder.specs.Syncing.{AreWithin, AreEnough}
use Rattle.svn_folder.specs.Marking.{marks_of}
use Rattle.svn_folder.proofs.Unsyncing.{within_chain, made_file, made_directory, made_link}
use Rattle.svn_folder.proofs.unsynced.Unsynced.begin_make.Goals as goal
use Rattle.svn_folder.proofs.unsynced.Unsynced.begin_make.Goals.{in-File+in_ok-mark_bytes-in-File, in-Directory+in_ok-mark_names-in-Directory, in-Link}

pub returns-clause-enough : goal.returns-clause-enough
returns-clause-enough c =
    let old = marks_of c.args.self.now in
    let named = marks_of c.mark_name.new.self in
    let q = c.args.path.now in
    let e = c.args.entry.now in
    let name = c.in_ok-mark_name.ensures.marked in
    let more : AreWithin old named = c.in_ok-mark_name.ensures.more in
    elim c.match-entry.branch [
      | in-File+in_ok-mark_bytes-in-File w ↦
          let all = marks_of w.mark_bytes.new.self in
          let rest : AreWithin named all = w.in_ok-mark_bytes-in-File.ensures.more in
          subst (λ (u : Unsynced). (t : Option ℕ) → AreEnough (Make q e t) old (marks_of u)) (sym w.self-is)
          (made_file old all (within_chain old named all more rest) q e w.in-File.field-0 w.in-File.field-1 w.in-File.is ((rest _).1 name)
          w.in_ok-mark_bytes-in-File.ensures.marked)
      | in-Directory+in_ok-mark_names-in-Directory w ↦
          let all = marks_of w.mark_names.new.self in
          let rest : AreWithin named all = w.in_ok-mark_names-in-Directory.ensures.more in
          subst (λ (u : Unsynced). (t : Option ℕ) → AreEnough (Make q e t) old (marks_of u)) (sym w.self-is)
          (made_directory old all (within_chain old named all more rest) q e w.in-Directory.is ((rest _).1 name)
          w.in_ok-mark_names-in-Directory.ensures.marked)
      | in-Link w ↦
          subst (λ (u : Unsynced). (t : Option ℕ) → AreEnough (Make q e t) old (marks_of u)) (sym w.self-is)
          (made_link old named more q e w.in-Link.field-0 w.in-Link.is name)
    ]
