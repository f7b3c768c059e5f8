-- The names of the commands.
use Rattle.std.specs.Prelude.{ℕ, List, bytes_eq, codes, Option, Some, None, if◌then◌else◌}
use Rattle.svn_script.specs.declared.verb.Verb.{Verb}
use Rattle.svn_script.specs.declared.verb.Verb.TheVariants.{Mkdir, Put, Prop, Unprop, Remove, Copy, Commit, Checkout}
use Rattle.svn_script.specs.declared.verb.Verb.TheVariants.{Place, Switch, Forget, Report, Drive, Update, SwitchTo, Show}

-- of those that add no change to the next commit
abbrev pub other_verb_of : List ℕ → Option Verb
other_verb_of name =
    if bytes_eq name (codes "commit") then Some Commit
    else if bytes_eq name (codes "checkout") then Some Checkout
    else if bytes_eq name (codes "place") then Some Place
    else if bytes_eq name (codes "switch") then Some Switch
    else if bytes_eq name (codes "forget") then Some Forget
    else if bytes_eq name (codes "report") then Some Report
    else if bytes_eq name (codes "drive") then Some Drive
    else if bytes_eq name (codes "update") then Some Update
    else if bytes_eq name (codes "switch-to") then Some SwitchTo
    else if bytes_eq name (codes "show") then Some Show
    else None

abbrev pub verb_of : List ℕ → Option Verb
verb_of name =
    if bytes_eq name (codes "mkdir") then Some Mkdir
    else if bytes_eq name (codes "put") then Some Put
    else if bytes_eq name (codes "prop") then Some Prop
    else if bytes_eq name (codes "unprop") then Some Unprop
    else if bytes_eq name (codes "remove") then Some Remove
    else if bytes_eq name (codes "copy") then Some Copy
    else other_verb_of name
