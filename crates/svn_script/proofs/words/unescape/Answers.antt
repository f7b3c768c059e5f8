use Rattle.std.proofs.Common.{◌≡◌, ℕ, List, ◌++◌, ◌∷◌, [], Some, option_map, sym, ap, ◌∙◌}
use Rattle.svn_script.specs.Reading.{unescaped}
use Rattle.svn_script.proofs.Escapes.{unescaped_at, unescaped_whole, one_more_escape}
use Rattle.svn_script.proofs.words.unescape.Goals as goal

pub escapes-preserved : goal.escapes-preserved
escapes-preserved c =
    let front = c.escapes.bytes.items in
    let run = c.in-Some.plain.now in
    let byte = c.in-Some-read_escape.byte in
    let after = c.in-Some-read_escape.after.now in
    let pushed : c.push_run.new.bytes.items ≡ front ++ (run ++ byte ∷ []) = c.in_ok-push_run.ensures in
    ap (λ (bs : List ℕ). option_map (λ (cs : List ℕ). bs ++ cs) (unescaped after)) pushed
    ∙ one_more_escape front run byte (unescaped after)
    ∙ ap (λ r. option_map (λ (cs : List ℕ). front ++ cs) (option_map (λ (cs : List ℕ). run ++ cs) r))
    (sym c.in-Some-read_escape.ensures.byte)
    ∙ ap (option_map (λ (cs : List ℕ). front ++ cs))
    (sym (unescaped_at c.escapes.rest.now run c.in-Some.behind.now c.in-Some.ensures.place))
    ∙ c.escapes.invariant

pub returns-in_default-read_escape : goal.returns-in_default-read_escape
returns-in_default-read_escape c =
    let run = c.in-Some.plain.now in
    sym c.escapes.invariant
    ∙ ap (option_map (λ (cs : List ℕ). c.escapes.bytes.items ++ cs))
    (unescaped_at c.escapes.rest.now run c.in-Some.behind.now c.in-Some.ensures.place
    ∙ ap (option_map (λ (cs : List ℕ). run ++ cs)) c.in_default-read_escape.ensures.byte)

pub returns : goal.returns
returns c =
    sym c.escapes.invariant
    ∙ ap (option_map (λ (cs : List ℕ). c.escapes.bytes.items ++ cs))
    (unescaped_whole c.escapes.rest.now c.in_default.ensures.place)
    ∙ ap Some (sym c.in_ok-extend_from_slice.ensures.items)
