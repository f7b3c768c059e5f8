use Rattle.std.proofs.Common.{◌≡◌, ℕ, true, ◌||◌, List, sym, ap, ◌∙◌}
use Rattle.std.specs.Prelude.{bytes_eq}
use Rattle.std.specs.Option.{option_copied}
use Rattle.svn_disk.specs.Spared.{is_that, has_text}
use Rattle.svn_disk.specs.Finding.{has_word}
use Rattle.svn_disk.proofs.KnownWords.{on_ok, either_way}
use Rattle.svn_disk.proofs.known.KnownTexts.add_row.Goals as goal

pub returns-in-Some : goal.returns-in-Some
returns-in-Some c =
    on_ok ((t : List ℕ) → has_word c.add.new.self t ≡ true → (bytes_eq t c.in-Some.text.now || has_word c.args.self.now t) ≡ true)
    ((t : List ℕ) → has_word c.add.new.self t ≡ true → (has_text c.args.row.now t || has_word c.args.self.now t) ≡ true) c.add.result
    (λ law t has. either_way (bytes_eq t c.in-Some.text.now) (has_text c.args.row.now t) (has_word c.args.self.now t)
    (λ h. ap (is_that t) (sym (ap option_copied (sym c.in-Some.is) ∙ c.text_at.ensures)) ∙ h) (law t has)) c.add.ensures
