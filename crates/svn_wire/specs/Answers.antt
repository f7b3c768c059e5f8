-- What a server says that is an answer, not data: its greeting, who it lets in, and whether a command succeeded. What an answer has after the
-- fields named here is passed over.
--     greeting_of item      the least and the most version that the server speaks, its mechanisms of authentication, its capabilities
--     mechanisms_of item      the mechanisms of which a client must use one, or none; the realm
--     refusal_of item      the message of a server that lets a client not in
--     repository_of item      the UUID of the repository, and its URL
--     failure_of item      the code and the message of a command's first error
use Rattle.std.specs.Prelude.{ℕ, List, codes, Option, Some}
use Rattle.svn_wire.specs.declared.token.Token.{Token}
use Rattle.svn_wire.specs.Fields.{◌>>=◌, fields_of, list_field, number_field, text_field, word_list}

unfoldable pub greeting_of : List Token → Option (ℕ × ℕ × List Token × List Token)
greeting_of item = do
  fields ← fields_of (codes "success") item
  least ← number_field fields
  most ← number_field least.1
  mechanisms ← word_list most.1
  capabilities ← word_list mechanisms.1
  Some (least.0, most.0, mechanisms.0, capabilities.0)

unfoldable pub mechanisms_of : List Token → Option (List Token × List ℕ)
mechanisms_of item = do
  fields ← fields_of (codes "success") item
  mechanisms ← word_list fields
  realm ← text_field mechanisms.1
  Some (mechanisms.0, realm.0)

unfoldable pub refusal_of : List Token → Option (List ℕ)
refusal_of item = do
  fields ← fields_of (codes "failure") item
  message ← text_field fields
  Some message.0

unfoldable pub repository_of : List Token → Option (List ℕ × List ℕ)
repository_of item = do
  fields ← fields_of (codes "success") item
  uuid ← text_field fields
  url ← text_field uuid.1
  Some (uuid.0, url.0)

-- code, message, and the place in the server's source
unfoldable pub error_of : List Token → Option (ℕ × List ℕ)
error_of fields = do
  code ← number_field fields
  message ← text_field code.1
  file ← text_field message.1
  line ← number_field file.1
  Some (code.0, message.0)

unfoldable pub failure_of : List Token → Option (ℕ × List ℕ)
failure_of item = do
  errors ← fields_of (codes "failure") item
  first ← list_field errors
  error_of first
