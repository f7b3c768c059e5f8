-- Lists of calls.
--     is_over calls      the last of them is `CloseEdit` or `AbortEdit`
--     EndsAtLast calls      nothing is after a `CloseEdit` or an `AbortEdit`
--     BeginsWith calls first      the list begins with those
use Rattle.std.specs.Prelude.{◌≡◌, Bool, true, false, List, [], ◌∷◌, ◌++◌}
use Rattle.svn_editor.specs.declared.call.Call.{Call}
use Rattle.svn_editor.specs.Calls.{is_last}

abbrev pub is_over : List Call → Bool
is_over [] = false
is_over (c ∷ []) = is_last c
is_over (c ∷ d ∷ calls) = is_over (d ∷ calls)

abbrev pub EndsAtLast : List Call → Type 0
EndsAtLast calls = (before : List Call) (c : Call) (after : List Call) → calls ≡ before ++ c ∷ after → is_last c ≡ true → after ≡ []

abbrev pub BeginsWith : List Call → List Call → Type 0
BeginsWith calls first = (rest : List Call) × (calls ≡ first ++ rest)
