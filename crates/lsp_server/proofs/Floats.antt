-- No answer of the server has a float, so its text is known.
use Rattle.std.proofs.Common.{ℕ, ◌≡◌, List, [], ◌∷◌, ◌++◌, Bool, true, false, cond, not, Option, None, Some, option_map, is_some, map, ◌||◌, refl}
use Rattle.serde_json.specs.Data.{Num, unsigned, negative, float, Data, null, boolean, number, string, array, object, Items}
use Rattle.serde_json.specs.Find.{as_str, get}
use Rattle.serde_json.specs.View.{items_of}
use Rattle.serde_json.specs.Written.{has_float, items_have_float}
use Rattle.std.specs.Option.{option_to_list}
use Rattle.std.specs.Prelude.{codes, option_and_then}
use Rattle.lsp_messages.specs.Messages.{Asked, initialize, shutdown, about, search, unreadable, unknown, Meaning, Query, request, notification, response, faulty}
use Rattle.lsp_messages.specs.Messages.{Told, exited, opened, changed, closed, unreadable, nothing, id_in, id_of, message_of, meaning_by, method_meaning, request_of}
use Rattle.lsp_messages.specs.Messages.{told_of}
use Rattle.lsp_values.specs.Shapes.{Said, said_answer, said_refusal, action_options_data, publish_data, refusal_data, rename_options_data, reply_data}
use Rattle.source_types.specs.declared.failures.Failure.{Failure}
use Rattle.source_types.specs.declared.failures.Failure.TheVariants.{BadParameters, NoJson, NoMethod, NoRequest, NotInitialized}
use Rattle.lsp_server.specs.Answers.{answer_data, found_among, found_in}
use Rattle.lsp_server.specs.Sayings.{HasNoFloats, SaidHasNoFloat, Sayings}
use Rattle.lsp_server.specs.Steps.{Answer, ready, done, refused, answered, searched, shown, cleared, warned, Open, Places, State, answered_of, current_of, open_at}
use Rattle.lsp_messages.specs.declared.clients.Client.{Client}
use Rattle.lsp_server.specs.Steps.{due_if, published, published_if, publishes_first, replied, requested, requested_fresh, requested_running, shown_due, shown_if_due}
use Rattle.lsp_server.specs.Steps.{step, taken_value, told, told_in}
use Rattle.lsp_server.specs.declared.phase.Phase.{Phase}
use Rattle.lsp_server.specs.declared.phase.Phase.TheVariants.{Fresh, Running, Finished, Ended}
use Rattle.lsp_server.specs.inside.Turns.{HaveNoFloats}

-- the value has no float
abbrev HasNoFloat : Option Data → Type 0
HasNoFloat None = Unit {0}
HasNoFloat (Some value) = has_float value ≡ false

-- ---- ids

plain_number : (n : Num) → HasNoFloat (id_of (number n))
plain_number (unsigned n) = refl
plain_number (negative z) = refl
plain_number (float x) = tt

plain_id_of : (d : Data) → HasNoFloat (id_of d)
plain_id_of null = tt
plain_id_of (boolean b) = tt
plain_id_of (number n) = plain_number n
plain_id_of (string s) = refl
plain_id_of (array ds) = tt
plain_id_of (object ms) = tt

plain_member_id : (o : Option Data) → HasNoFloat (option_and_then id_of o)
plain_member_id None = tt
plain_member_id (Some d) = plain_id_of d

plain_id_in : (d : Data) → HasNoFloat (id_in d)
plain_id_in d = plain_member_id (get (codes "id") d)

-- ---- messages

-- the id of a message, if it has one
abbrev id_meant : Meaning → Option Data
id_meant (request id asked) = Some id
id_meant (notification notice) = None
id_meant response = None
id_meant (faulty id) = id

plain_request : (method : List ℕ) (d : Data) (id : Option Data) → HasNoFloat id → HasNoFloat (id_meant (request_of method d id))
plain_request method d None h = tt
plain_request method d (Some id) h = h

plain_called : (b : Bool) (method : List ℕ) (d : Data) (id : Option Data) (notice : Told) → HasNoFloat id
    → HasNoFloat (id_meant (cond b (request_of method d id) (notification notice)))
plain_called true method d id notice h = plain_request method d id h
plain_called false method d id notice h = tt

plain_method : (d : Data) (method : Option (List ℕ)) → HasNoFloat (id_meant (method_meaning d method))
plain_method d None = plain_id_in d
plain_method d (Some method) = plain_called (is_some (get (codes "id") d)) method d (id_in d) (told_of method d) (plain_id_in d)

plain_response : (b : Bool) (id : Option Data) → HasNoFloat id → HasNoFloat (id_meant (cond b response (faulty id)))
plain_response true id h = tt
plain_response false id h = h

plain_meaning : (d : Data) (method : Option Data) → HasNoFloat (id_meant (meaning_by d method))
plain_meaning d None = plain_response (is_some (get (codes "result") d) || is_some (get (codes "error") d)) (id_in d) (plain_id_in d)
plain_meaning d (Some method) = plain_method d (as_str method)

plain_message : (d : Data) → HasNoFloat (id_meant (message_of d))
plain_message d = plain_meaning d (get (codes "method") d)

-- ---- answers

-- the id of an answer, if it has one
abbrev id_answered : Answer → Option Data
id_answered (ready id client) = Some id
id_answered (done id) = Some id
id_answered (refused id failure) = id
id_answered (answered id client document query) = Some id
id_answered (searched id documents held) = Some id
id_answered (shown document) = None
id_answered (cleared uri) = None
id_answered (warned uri) = None

plain_refusal : (id : Option Data) (failure : Failure) → HasNoFloat id → has_float (refusal_data id failure) ≡ false
plain_refusal None failure h = refl
plain_refusal (Some id) failure h = rw h refl

plain_reply : (id : Data) (said : Said) → has_float id ≡ false → SaidHasNoFloat said → has_float (reply_data id said) ≡ false
plain_reply id (said_answer result) h plain = rw h (rw plain refl)
plain_reply id (said_refusal failure) h plain = plain_refusal (Some id) failure h

-- what the server offers a client has no number with a fraction, whatever the client can do
plain_actions : (takes : Bool) → has_float (action_options_data takes) ≡ false
plain_actions false = refl
plain_actions true = refl

plain_renames : (prepares : Bool) → has_float (rename_options_data prepares) ≡ false
plain_renames false = refl
plain_renames true = refl

-- what is published, with a version or without
plain_published : (uri : List ℕ) (version : Option ℕ) (diagnostics : Items) → items_have_float diagnostics ≡ false
    → has_float (publish_data uri version diagnostics) ≡ false
plain_published uri None diagnostics h = rw h refl
plain_published uri (Some version) diagnostics h = rw h refl

-- the symbols that are found
plain_both : (one other : List Data) → items_have_float (items_of one) ≡ false → items_have_float (items_of other) ≡ false
    → items_have_float (items_of (one ++ other)) ≡ false
plain_both [] other first second = second
plain_both (d ∷ ds) other first second =
    let both = or_parts (has_float d) (items_have_float (items_of ds)) first in
    rw both.0 (plain_both ds other both.1 second)
  where
    or_parts : (a b : Bool) → (a || b) ≡ false → (a ≡ false) × (b ≡ false)
    or_parts true b e = absurd cc
    or_parts false b e = (refl, e)

plain_current : (says : Sayings) (held : List ℕ) (document : Open) (current : Bool) → HasNoFloats says
    → items_have_float (items_of (cond current (says.symbols document.text document.uri held) [])) ≡ false
plain_current says held document true plain = plain.symbols document.text document.uri held
plain_current says held document false plain = refl

plain_found : (says : Sayings) (held : List ℕ) (documents : List Open) → HasNoFloats says
    → items_have_float (items_of (found_among says held documents)) ≡ false
plain_found says held [] plain = refl
plain_found says held (document ∷ documents) plain =
    plain_both (found_in says held document) (found_among says held documents) (plain_current says held document document.current plain)
    (plain_found says held documents plain)

plain_answer : (says : Sayings) (answer : Answer) → HasNoFloats says → HasNoFloat (id_answered answer) → has_float (answer_data says answer) ≡ false
plain_answer says (ready id client) plain h = rw h (rw (plain_actions client.takes_actions) (rw (plain_renames client.prepares_renames) refl))
plain_answer says (done id) plain h = rw h refl
plain_answer says (refused id failure) plain h = plain_refusal id failure h
plain_answer says (answered id client document query) plain h =
    plain_reply id (says.answers client document.text document.uri query) h (plain.answers client document.text document.uri query)
plain_answer says (searched id documents held) plain h = rw h (rw (plain_found says held documents plain) refl)
plain_answer says (shown document) plain h =
    plain_published document.uri document.version (says.diagnostics document.client document.text) (plain.diagnostics document.client document.text)
plain_answer says (cleared uri) plain h = refl
plain_answer says (warned uri) plain h = refl

-- ---- steps

abbrev IsPlain : Sayings → Option Answer → Type 0
IsPlain says answer = HasNoFloat (option_map (answer_data says) answer)

plain_fresh : (says : Sayings) (id : Data) (asked : Asked) → HasNoFloats says → has_float id ≡ false
    → has_float (answer_data says (requested_fresh id asked).1) ≡ false
plain_fresh says id (initialize client) plain h = plain_answer says (ready id client) plain h
plain_fresh says id shutdown plain h = plain_answer says (refused (Some id) NotInitialized) plain h
plain_fresh says id (about uri query) plain h = plain_answer says (refused (Some id) NotInitialized) plain h
plain_fresh says id (search held) plain h = plain_answer says (refused (Some id) NotInitialized) plain h
plain_fresh says id unreadable plain h = plain_answer says (refused (Some id) NotInitialized) plain h
plain_fresh says id unknown plain h = plain_answer says (refused (Some id) NotInitialized) plain h

plain_about : (says : Sayings) (id : Data) (client : Client) (query : Query) (found : Option Open) → HasNoFloats says → has_float id ≡ false
    → has_float (answer_data says (answered_of id client query found)) ≡ false
plain_about says id client query None plain h = plain_answer says (refused (Some id) BadParameters) plain h
plain_about says id client query (Some document) plain h = plain_answer says (answered id client document query) plain h

plain_running : (says : Sayings) (client : Client) (documents : List Open) (id : Data) (asked : Asked) → HasNoFloats says → has_float id ≡ false
    → has_float (answer_data says (requested_running client documents id asked).1) ≡ false
plain_running says client documents id (initialize other) plain h = plain_answer says (refused (Some id) NoRequest) plain h
plain_running says client documents id shutdown plain h = plain_answer says (done id) plain h
plain_running says client documents id (about uri query) plain h = plain_about says id client query (current_of (open_at uri documents)) plain h
plain_running says client documents id (search held) plain h = plain_answer says (searched id documents held) plain h
plain_running says client documents id unreadable plain h = plain_answer says (refused (Some id) BadParameters) plain h
plain_running says client documents id unknown plain h = plain_answer says (refused (Some id) NoMethod) plain h

plain_requested : (says : Sayings) (documents : List Open) (phase : Phase) (id : Data) (asked : Asked) → HasNoFloats says → has_float id ≡ false
    → has_float (answer_data says (requested documents phase id asked).1) ≡ false
plain_requested says documents Fresh id asked plain h = plain_fresh says id asked plain h
plain_requested says documents (Running client) id asked plain h = plain_running says client documents id asked plain h
plain_requested says documents Finished id asked plain h = plain_answer says (refused (Some id) NoRequest) plain h
plain_requested says documents (Ended status) id asked plain h = plain_answer says (refused (Some id) NoRequest) plain h

plain_closed : (says : Sayings) (uri : List ℕ) (found : Option Open) → IsPlain says (option_map (λ document. cleared uri) found)
plain_closed says uri None = tt
plain_closed says uri (Some document) = refl

plain_told : (says : Sayings) (places : Places) (client : Client) (notice : Told) (documents : List Open) → HasNoFloats says
    → IsPlain says (told places client notice documents).1
plain_told says places client exited documents plain = tt
plain_told says places client (opened uri version text) documents plain = tt
plain_told says places client (changed uri version edits) documents plain = tt
plain_told says places client (closed uri) documents plain = plain_closed says uri (open_at uri documents)
plain_told says places client (unreadable uri) documents plain = plain_answer says (warned uri) plain tt
plain_told says places client nothing documents plain = tt

plain_told_in : (says : Sayings) (places : Places) (phase : Phase) (notice : Told) (documents : List Open) → HasNoFloats says
    → IsPlain says (told_in places phase notice documents).1
plain_told_in says places Fresh notice documents plain = tt
plain_told_in says places (Running client) notice documents plain = plain_told says places client notice documents plain
plain_told_in says places Finished notice documents plain = tt
plain_told_in says places (Ended status) notice documents plain = tt

plain_step : (says : Sayings) (places : Places) (state : State) (message : Meaning) → HasNoFloats says → HasNoFloat (id_meant message)
    → IsPlain says (step places state message).1
plain_step says places state (request id asked) plain h = plain_requested says state.documents state.phase id asked plain h
plain_step says places state (notification notice) plain h = plain_told_in says places state.phase notice state.documents plain
plain_step says places state response plain h = tt
plain_step says places state (faulty id) plain h = plain_answer says (refused id NoRequest) plain h

-- ---- turns

abbrev ArePlain : Sayings → List Answer → Type 0
ArePlain says answers = HaveNoFloats (map (answer_data says) answers)

plain_and : (says : Sayings) (one other : List Answer) → ArePlain says one → ArePlain says other → ArePlain says (one ++ other)
plain_and says [] other first second = second
plain_and says (answer ∷ one) other first second = (first.0, plain_and says one other first.1 second)

plain_list : (says : Sayings) (answer : Option Answer) → IsPlain says answer → ArePlain says (option_to_list answer)
plain_list says None h = tt
plain_list says (Some answer) h = (h, tt)

plain_if_due : (says : Sayings) (document : Open) (due : Bool) → HasNoFloats says → ArePlain says (cond due (shown (published document) ∷ []) [])
plain_if_due says document false plain = tt
plain_if_due says document true plain = (plain_answer says (shown (published document)) plain tt, tt)

plain_due : (says : Sayings) (documents : List Open) → HasNoFloats says → ArePlain says (shown_due documents)
plain_due says [] plain = tt
plain_due says (document ∷ documents) plain =
    plain_and says (shown_if_due document) (shown_due documents) (plain_if_due says document document.due plain) (plain_due says documents plain)

plain_due_if : (says : Sayings) (state : State) (wanted : Bool) → HasNoFloats says → ArePlain says (due_if wanted state)
plain_due_if says state true plain = plain_due says state.documents plain
plain_due_if says state false plain = tt

plain_taken : (says : Sayings) (places : Places) (state : State) (value : Option Data) → HasNoFloats says → ArePlain says (taken_value places state value).1
plain_taken says places state None plain = (plain_answer says (refused None NoJson) plain tt, tt)
plain_taken says places state (Some value) plain =
    let message = message_of value in
    let first = publishes_first message in
    let after = step places (published_if first state) message in
    plain_and says (due_if first state) (option_to_list after.1) (plain_due_if says state first plain)
    (plain_list says after.1 (plain_step says places (published_if first state) message plain (plain_message value)))

-- what is sent in reply to a value has no float
pub plain_replied : (says : Sayings) (places : Places) (state : State) (value : Option Data) (waits : Bool) → HasNoFloats says
    → ArePlain says (replied places state value waits).1
plain_replied says places state value waits plain =
    let after = taken_value places state value in
    plain_and says after.1 (due_if (not waits) after.0) (plain_taken says places state value plain) (plain_due_if says after.0 (not waits) plain)
