-- Lists of calls that end at a last call.
use Rattle.std.proofs.Common.{◌≡◌, true, false, true≢false, List, [], ◌∷◌, ◌++◌, append-nil, append_assoc, refl, sym, ap, ◌∙◌}
use Rattle.std.proofs.Common.{⊎_elim}
use Rattle.svn_lists.proofs.Parts.{push_cases}
use Rattle.svn_editor.specs.declared.call.Call.{Call}
use Rattle.svn_editor.specs.Calls.{is_last}
use Rattle.svn_link.specs.Calls.{is_over, EndsAtLast}

pub is_over-snoc : (calls : List Call) (c : Call) → is_over (calls ++ c ∷ []) ≡ is_last c
is_over-snoc [] c = refl
is_over-snoc (d ∷ []) c = refl
is_over-snoc (d ∷ e ∷ calls) c = is_over-snoc (e ∷ calls) c

-- a list that is over ends with a last call
pub over_ends : (calls : List Call) → is_over calls ≡ true
    → (before : List Call) × (c : Call) × (calls ≡ before ++ c ∷ []) × (is_last c ≡ true)
over_ends [] over = absurd (true≢false (sym over))
over_ends (c ∷ []) over = ([], c, refl, over)
over_ends (c ∷ d ∷ calls) over = let r = over_ends (d ∷ calls) over in (c ∷ r.0, r.1, ap (λ l. c ∷ l) r.2, r.3)

pub ends-nil : EndsAtLast []
ends-nil [] c after e last = absurd cc
ends-nil (b ∷ before) c after e last = absurd cc

-- a list that is not over can go on
pub ends-snoc : (calls : List Call) (c : Call) → EndsAtLast calls → is_over calls ≡ false → EndsAtLast (calls ++ c ∷ [])
ends-snoc calls c ends more before d after e last =
    ⊎_elim
    (λ (t : after ≡ []). t)
    (λ (t : (rest : List Call) × (calls ≡ before ++ d ∷ rest)).
    let none = ends before d t.0 t.1 last in
    let over : is_over calls ≡ true = ap is_over (t.1 ∙ ap (λ l. before ++ d ∷ l) none) ∙ is_over-snoc before d ∙ last in
    absurd (true≢false (sym over ∙ more)))
    (push_cases calls before after c d e)

-- where what was taken is over, it is all that was sent
pub taken_whole : (sent taken rest : List Call) → sent ≡ taken ++ rest → EndsAtLast sent → is_over taken ≡ true → taken ≡ sent
taken_whole sent taken rest order ends over =
    let r = over_ends taken over in
    let place : sent ≡ r.0 ++ r.1 ∷ rest = order ∙ ap (λ l. l ++ rest) r.2 ∙ append_assoc r.0 (r.1 ∷ []) rest in
    let none = ends r.0 r.1 rest place r.3 in
    sym (order ∙ ap (λ l. taken ++ l) none ∙ append-nil taken)
