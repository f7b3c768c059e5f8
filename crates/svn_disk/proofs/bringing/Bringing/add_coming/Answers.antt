use Rattle.std.proofs.Common.{◌≡◌, ℕ, true, ◌||◌, List, sym, ap, ◌∙◌, rules}
use Rattle.std.specs.Prelude.{bytes_eq, Some}
use Rattle.std.specs.Option.{option_copied}
use Rattle.svn_disk.specs.Plans.{text_of_node}
use Rattle.svn_disk.specs.Spared.{texts_of}
use Rattle.svn_disk.specs.Finding.{has_word}
use Rattle.svn_disk.proofs.KnownWords.{on_ok, either_way, node_text}
use Rattle.svn_disk.proofs.bringing.Bringing.add_coming.Goals as goal

pub returns-in-Some-file_of : goal.returns-in-Some-file_of
returns-in-Some-file_of c =
    let copy = c.args.self.now.wanted.now.copy in
    let name = c.as_slice.result.now in
    let text : text_of_node c.in-Some.node.now ≡ Some c.in-Some-file_of.text.now = search rules in
    on_ok ((t : List ℕ) → has_word c.add.new.self t ≡ true → (bytes_eq t name || has_word c.args.known.now t) ≡ true)
    ((t : List ℕ) → has_word c.add.new.self t ≡ true → (texts_of copy t || has_word c.args.known.now t) ≡ true) c.add.result
    (λ law t has. either_way (bytes_eq t name) (texts_of copy t) (has_word c.args.known.now t)
    (λ h. node_text copy c.in-InstallFile.path c.in-Some.node.now name t (sym c.get.ensures ∙ ap option_copied c.in-Some.is)
    (text ∙ ap Some (sym c.as_slice.ensures)) h) (law t has)) c.add.ensures
