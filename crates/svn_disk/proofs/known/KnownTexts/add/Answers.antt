use Rattle.std.proofs.Common.{◌≡◌, true, subst}
use Rattle.std.specs.Prelude.{bytes_eq}
use Rattle.svn_disk.specs.declared.known.KnownTexts.{KnownTexts}
use Rattle.svn_disk.specs.Finding.{has_word}
use Rattle.svn_disk.proofs.KnownWords.{word_in, or_last}
use Rattle.svn_disk.proofs.known.KnownTexts.add.Goals.{in-Ok+in_ok-insert, in_default}
use Rattle.svn_disk.proofs.known.KnownTexts.add.Goals as goal

pub returns : goal.returns
returns c = λ t has.
    elim c.match-try_from.branch [
      | in-Ok+in_ok-insert w ↦
          word_in c.args.self.now.words w.insert.new.self w.in-Ok.word c.args.stand_in.now t w.in-Ok.ensures.1.same (w.in_ok-insert.ensures.updates.0 t)
          (subst (λ (k : KnownTexts). has_word k t ≡ true) w.self-is has)
      | in_default w ↦
          or_last (bytes_eq t c.args.stand_in.now) (has_word c.args.self.now t) (subst (λ (k : KnownTexts). has_word k t ≡ true) w.self-is has)
    ]
