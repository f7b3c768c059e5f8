-- What is known of the headers after some lines.
--     given      how often a header is given, and its value
--     IsRead block headers well_formed      what is known of all headers of a block, and whether each of its lines is one
use Rattle.std.specs.Prelude.{◌≡◌, ℕ, Bool, List, [], ◌∷◌, get_or, Option, Some, None, Result, Ok, Err}
use Rattle.svn_dump.specs.declared.fault.Reason.{Reason}
use Rattle.svn_dump.specs.declared.fault.Reason.TheVariants.{Twice}
use Rattle.svn_dump.specs.declared.given.Given.{Given}
use Rattle.svn_dump.specs.declared.given.Given.TheVariants as givens
use Rattle.svn_dump.specs.declared.header_name.HeaderName.{HeaderName}
use Rattle.svn_dump.specs.Headers.{header_value, are_headers}
use Rattle.svn_dump.specs.HeaderNames.{name_of, index_of}

abbrev pub given : Given → Result (Option (List ℕ)) Reason
given givens.Absent = Ok None
given (givens.Once value) = Ok (Some value.now)
given givens.Twice = Err Twice

-- given once more
abbrev pub once_more : Result (Option (List ℕ)) Reason → List ℕ → Result (Option (List ℕ)) Reason
once_more (Ok None) value = Ok (Some value)
once_more (Ok (Some other)) value = Err Twice
once_more (Err reason) value = Err reason

-- given once more, if a line gives it
abbrev pub more_given : Result (Option (List ℕ)) Reason → Option (List ℕ) → Result (Option (List ℕ)) Reason
more_given found None = found
more_given found (Some value) = once_more found value

-- given so often more
abbrev pub all_given : Result (Option (List ℕ)) Reason → List (List ℕ) → Result (Option (List ℕ)) Reason
all_given found [] = found
all_given found (value ∷ values) = all_given (once_more found value) values

abbrev pub given_at : List Given → HeaderName → Result (Option (List ℕ)) Reason
given_at headers name = given (get_or headers (index_of name) givens.Absent)

abbrev pub IsRead : List ℕ → List Given → Bool → Type 0
IsRead block headers well_formed =
    ((name : HeaderName) → given_at headers name ≡ header_value block (name_of name)) × (well_formed ≡ are_headers block)
