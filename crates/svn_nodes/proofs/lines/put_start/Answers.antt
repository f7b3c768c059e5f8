use Rattle.std.proofs.Common.{◌∷◌, [], ◌++◌, ℕ, List, append_assoc, ap, refl, sym, ◌∙◌}
use Rattle.std.specs.Fmt.{decimal}
use Rattle.std.proofs.Output.{contents_after_writes}
use Rattle.svn_nodes.proofs.lines.put_start.Goals as goal

pub returns : goal.returns
returns c =
    contents_after_writes _ (λ text. text.bytes) (λ before bytes after appended. appended) _ _ _ c.in_ok-write.ensures.writes
    ∙ ap (λ (k : ℕ). c.write_str-2.new.self.bytes ++ (decimal k ++ 32 ∷ [])) c.rev.view_is
    ∙ ap (λ (l : List ℕ). l ++ (decimal c.args.rev ++ 32 ∷ []))
    (c.in_ok-write_str-2.ensures.ok refl
    ∙ ap (λ (l : List ℕ). l ++ c.args.kind.now)
    (c.in_ok-write_str.ensures.ok refl ∙ ap (λ (l : List ℕ). l ++ c.as_str.result.now) c.clear.ensures ∙ c.as_str.ensures.value))
    ∙ sym (append_assoc (c.args.at.now.bytes ++ c.args.kind.now) (decimal c.args.rev) (32 ∷ []))
