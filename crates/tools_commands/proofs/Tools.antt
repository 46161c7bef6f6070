-- The command of one tool alone reads the words after its name as the command of the program does.
use Rattle.std.proofs.Common.{◌≡◌, ◌∙◌, Bool, Result, Ok, Err, IfSome, true, false, refl, sym, ap, ap₂, subst, List, [], ◌∷◌, length, map}
use Rattle.std.proofs.Common.{get_or, nat_lt, Option, Some, None, fold, find, drop, take, ◌-◌, arith, is_some, if◌then◌else◌}
use Rattle.std.specs.Prelude.{slice_get, option_map, unwrap_or}
use Rattle.std.specs.Option.{option_map_or}
use Rattle.std.specs.Result.{result_ok}
use Rattle.std.specs.Str.{bytes_eq}
use Rattle.std.proofs.Math.Seq.{take-length}
use Rattle.std.proofs.lemmas.Bool.{true≢false}
use Rattle.std.proofs.lemmas.Slice.Eq.{bytes_eq-Decides}
use Rattle.clap.specs.Faults.{built_fault, check_fault, defaults_fault, entered_fault, fault_of}
use Rattle.clap.specs.Faults.{is_simple_and_free, level_fault, settle_fault, turn_fault, walk_fault}
use Rattle.clap.specs.Kinds.{FailsBy, Kinds, or_else}
use Rattle.clap.specs.Simple.{App, HasMatchesOf, Shape, argument_words, built, entered, is_simple, label_of, matches_of, names_of, rows_at, subcommand_of}
use Rattle.clap.specs.Walk.{Names, Row, Text, Walk, answers_to, finished, nothing_held, rows_after, settled, stop_after, walk, walk_from, walked}
use Rattle.clap.specs.Words.{found_of, rows_of}
use Rattle.clap.specs.declared.parser.matches.ArgMatches.{ArgMatches}
use Rattle.clap.proofs.FaultLemmas.{leaf_fault, stopped_fault}
use Rattle.clap.proofs.WalkLemmas.{walk_stopped}
use Rattle.tools_commands.specs.Arguments.{Asked, asked_of, task_at, task_in}
use Rattle.tools_commands.specs.Jobs.{task_of}
use Rattle.tools_commands.specs.inside.Commands.{tool_app}
use Rattle.tools_commands.specs.inside.Jobs.{Answers}
use Rattle.tools_commands.specs.declared.jobs.Job.{Job}
use Rattle.tools_commands.specs.declared.mistakes.NoJob.{NoJob}
use Rattle.tools_commands.specs.Commands.{session_app, ti_app, tic_app, tput_app}
use Rattle.tools_commands.specs.InfocmpWords.{infocmp_app}
use Rattle.tools_commands.specs.Names.{infocmp_name, session_name, tic_name, tput_name}
use Rattle.tools_commands.specs.Rules.{Choices}

-- the walk that met a name as its first word, with the words after it
abbrev at_name : Text → List Text → Walk
at_name name rest = record (walk_from nothing_held) { stopped = Some (name, rest) }

-- the faults of a built command whose walk ended so, when these came before
abbrev faults_at : App → Walk → Kinds → Kinds
faults_at b w before =
    or_else before (or_else (entered_fault b w.stopped)
    (or_else (settle_fault b.top.rules b.top.args_override_self w.held)
    (or_else (defaults_fault (settled b.top.rules w.held).rows b.top.rules) (check_fault b.top (finished b.top.rules w.held) (is_some (entered b w.stopped))))))

-- the faults of a built command of which only a subcommand was used
abbrev own_faults : App → Bool → Kinds
own_faults b entered_one =
    or_else (settle_fault b.top.rules b.top.args_override_self nothing_held)
    (or_else (defaults_fault (settled b.top.rules nothing_held).rows b.top.rules) (check_fault b.top (finished b.top.rules nothing_held) entered_one))

-- the faults of a built command that found this subcommand
abbrev faults_found : App → List Text → Option Shape → Kinds
faults_found b rest found =
    or_else (option_map_or (λ (s : Shape). level_fault s [] nothing_held rest false []) found [])
    (own_faults b (is_some (option_map (λ (s : Shape). rows_at s rest) found)))

-- the tool is what the program enters at this name, and nothing else of the program has a fault
-- there
record IsTool (program : App) (name : Text) (tool : App) : Type 0 where
  pub simple : is_simple tool ≡ true
  pub free : is_simple_and_free tool ≡ true
  pub program_words : (words : List Text) → argument_words program words ≡ drop 1 words
  pub tool_words : (words : List Text) → argument_words tool words ≡ drop 1 words
  pub enters : walked (built program).top.rules (names_of (built program)) (walk_from nothing_held) name ≡ at_name name []
  pub passes : turn_fault (built program).top (names_of (built program)) (walk_from nothing_held) name ≡ []
  pub finds : find (λ (s : Shape). answers_to name (label_of s)) (built program).subs ≡ Some (built tool).top
  pub named : (built tool).top.name ≡ name
  pub leaf : (built tool).subs ≡ []
  pub no_own_fault : own_faults (built program) true ≡ []

is_tool_at : (program : App) (name : Text) (tool : App) → is_simple tool ≡ true → is_simple_and_free tool ≡ true
    → ((words : List Text) → argument_words program words ≡ drop 1 words) → ((words : List Text) → argument_words tool words ≡ drop 1 words)
    → walked (built program).top.rules (names_of (built program)) (walk_from nothing_held) name ≡ at_name name []
    → turn_fault (built program).top (names_of (built program)) (walk_from nothing_held) name ≡ []
    → find (λ (s : Shape). answers_to name (label_of s)) (built program).subs ≡ Some (built tool).top → (built tool).top.name ≡ name
    → (built tool).subs ≡ [] → own_faults (built program) true ≡ [] → IsTool program name tool
is_tool_at program name tool simple free program_words tool_words enters passes finds named leaf no_own_fault = record {
  simple = simple;
  free = free;
  program_words = program_words;
  tool_words = tool_words;
  enters = enters;
  passes = passes;
  finds = finds;
  named = named;
  leaf = leaf;
  no_own_fault = no_own_fault;
}

is_tic : (orders : Choices) → IsTool (ti_app orders) tic_name tic_app
unfolding ti_app walked defaults_fault
is_tic orders = is_tool_at (ti_app orders) tic_name tic_app refl refl (λ words. refl) (λ words. refl) refl refl refl refl refl refl

is_tput : (orders : Choices) → IsTool (ti_app orders) tput_name tput_app
unfolding ti_app walked defaults_fault
is_tput orders = is_tool_at (ti_app orders) tput_name tput_app refl refl (λ words. refl) (λ words. refl) refl refl refl refl refl refl

is_session : (orders : Choices) → IsTool (ti_app orders) session_name session_app
unfolding ti_app walked defaults_fault
is_session orders = is_tool_at (ti_app orders) session_name session_app refl refl (λ words. refl) (λ words. refl) refl refl refl refl refl refl

is_infocmp : (orders : Choices) → IsTool (ti_app orders) infocmp_name (infocmp_app orders)
unfolding ti_app walked defaults_fault
is_infocmp orders = is_tool_at (ti_app orders) infocmp_name (infocmp_app orders) refl refl (λ words. refl) (λ words. refl) refl refl refl refl refl refl

same_tool : (orders : Choices) (name known : Text) (tool app : App) → bytes_eq name known ≡ true → Some tool ≡ Some app
    → IsTool (ti_app orders) known tool → IsTool (ti_app orders) name app
same_tool orders name known tool app eq is t =
    subst (λ (n : Text). IsTool (ti_app orders) n app) (sym ((bytes_eq-Decides name known).0 eq))
    (subst (λ (a : App). IsTool (ti_app orders) known a) (ap (λ (o : Option App). unwrap_or o tool) is) t)

tool_of : (orders : Choices) (name : Text) (app : App) (tic tput session infocmp : Bool) → bytes_eq name tic_name ≡ tic
    → bytes_eq name tput_name ≡ tput
    → bytes_eq name session_name ≡ session → bytes_eq name infocmp_name ≡ infocmp
    → (if tic then Some tic_app else if tput then Some tput_app else if session then Some session_app
    else if infocmp then Some (infocmp_app orders) else None) ≡ Some app
    → IsTool (ti_app orders) name app
tool_of orders name app true b2 b3 b4 e1 e2 e3 e4 is = same_tool orders name _ tic_app app e1 is (is_tic orders)
tool_of orders name app false true b3 b4 e1 e2 e3 e4 is = same_tool orders name _ tput_app app e2 is (is_tput orders)
tool_of orders name app false false true b4 e1 e2 e3 e4 is = same_tool orders name _ session_app app e3 is (is_session orders)
tool_of orders name app false false false true e1 e2 e3 e4 is = same_tool orders name _ (infocmp_app orders) app e4 is (is_infocmp orders)
tool_of orders name app false false false false e1 e2 e3 e4 is = absurd (cc)

is_tool : (orders : Choices) (name : Text) (app : App) → tool_app orders name ≡ Some app → IsTool (ti_app orders) name app
is_tool orders name app is = tool_of orders name app _ _ _ _ refl refl refl refl is

walk_is : (program : App) (name : Text) (tool : App) (rest : List Text) → IsTool program name tool
    → walk (built program).top.rules (names_of (built program)) nothing_held (name ∷ rest) ≡ at_name name rest
walk_is program name tool rest is =
    ap (λ (w : Walk). fold (walked (built program).top.rules (names_of (built program))) w rest) is.enters
    ∙ sym (walk_stopped (built program).top.rules (names_of (built program)) (walk_from nothing_held) name [] rest)

walk_passes : (program : App) (name : Text) (tool : App) (rest : List Text) → IsTool program name tool
    → walk_fault (built program).top (names_of (built program)) (walk_from nothing_held) (name ∷ rest) ≡ []
unfolding walk_fault
walk_passes program name tool rest is =
    let b = built program in
    ap₂ or_else is.passes (ap (λ (w : Walk). walk_fault b.top (names_of b) w rest) is.enters
    ∙ stopped_fault b.top (names_of b) (walk_from nothing_held) (name, []) rest)

subcommand_is : (program : App) (name : Text) (tool : App) (first : Text) (rest : List Text) → IsTool program name tool
    → subcommand_of program (first ∷ name ∷ rest) ≡ Some (name, matches_of tool (name ∷ rest))
subcommand_is program name tool first rest is =
    let b = built program in
    ap (λ (words : List Text). entered b (stop_after b.top.rules (names_of b) words)) (is.program_words (first ∷ name ∷ rest))
    ∙ ap (λ (w : Walk). entered b w.stopped) (walk_is program name tool rest is)
    ∙ ap (λ (found : Option Shape). option_map (λ (s : Shape). rows_at s rest) found) is.finds
    ∙ ap₂ (λ (n : Text) (rows : List Row). Some (n, rows)) is.named
    (ap₂ (λ (names : Names) (words : List Text). rows_after (built tool).top.rules names words)
    (ap (λ (subs : List Shape). map label_of subs) (sym is.leaf)) (sym (is.tool_words (name ∷ rest))))

no_fault : (program : App) (name : Text) (tool : App) (first : Text) (rest : List Text) → IsTool program name tool
    → fault_of tool (name ∷ rest) ≡ [] → fault_of program (first ∷ name ∷ rest) ≡ []
no_fault program name tool first rest is none =
    let b = built program in
    let below : level_fault (built tool).top [] nothing_held rest false [] ≡ [] =
    sym (leaf_fault (built tool) nothing_held rest is.leaf) ∙ ap (λ (words : List Text). built_fault (built tool) nothing_held words)
    (sym (is.tool_words (name ∷ rest))) ∙ none in
    ap (λ (words : List Text). built_fault b nothing_held words) (is.program_words (first ∷ name ∷ rest))
    ∙ ap₂ (faults_at b) (walk_is program name tool rest is) (walk_passes program name tool rest is)
    ∙ ap (faults_found b rest) is.finds
    ∙ ap₂ or_else below is.no_own_fault

-- what the words ask for is what the matches of their tool's command ask for
pub asked-tool : (orders : Choices) (words : List Text) (name : Text) (app : App) (matches : ArgMatches) → Some name ≡ slice_get words 1
    → Some app ≡ tool_app orders name → HasMatchesOf app (drop 1 words) matches → task_at name (rows_of (found_of matches)) ≡ asked_of (ti_app orders) words
asked-tool orders [] name app matches at is has = absurd (cc)
asked-tool orders (first ∷ []) name app matches at is has = absurd (cc)
asked-tool orders (first ∷ second ∷ rest) name app matches at is has =
    let same : name ≡ second = ap (λ (o : Option Text). unwrap_or o name) at in
    let tool = is_tool orders name app (sym is) in
    let rows : rows_of (found_of matches) ≡ matches_of app (second ∷ rest) = (has tool.simple).0 in
    ap (task_at name) (rows ∙ ap (λ (n : Text). matches_of app (n ∷ rest)) (sym same))
    ∙ ap task_in (sym (subcommand_is (ti_app orders) name app first rest tool))
    ∙ ap (λ (n : Text). asked_of (ti_app orders) (first ∷ n ∷ rest)) same

-- clap finds no fault in words in which it finds none by the tool's command
pub no_faults-tool : (orders : Choices) (words : List Text) (name : Text) (app : App) (matches : ArgMatches) → Some name ≡ slice_get words 1
    → Some app ≡ tool_app orders name
    → (is_simple_and_free app ≡ true → FailsBy {T = ArgMatches} (fault_of app (drop 1 words)) (Ok matches)) → fault_of (ti_app orders) words ≡ []
no_faults-tool orders [] name app matches at is fails = absurd (cc)
no_faults-tool orders (first ∷ []) name app matches at is fails = absurd (cc)
no_faults-tool orders (first ∷ second ∷ rest) name app matches at is fails =
    let same : name ≡ second = ap (λ (o : Option Text). unwrap_or o name) at in
    let tool = is_tool orders name app (sym is) in
    ap (λ (n : Text). fault_of (ti_app orders) (first ∷ n ∷ rest)) (sym same)
    ∙ no_fault (ti_app orders) name app first rest tool (ap (λ (n : Text). fault_of app (n ∷ rest)) same ∙ fails tool.free)

-- the second of some things, and what a function gives of it
pub second_of : {X : Type 0} (f : X → Text) (xs : List X) (x : X) → true ≡ nat_lt 1 (length xs) → x ≡ get_or xs 1 x → Some (f x) ≡ slice_get (map f xs) 1
second_of f [] x within is = absurd (true≢false within)
second_of f (first ∷ []) x within is = absurd (true≢false within)
second_of f (first ∷ second ∷ rest) x within is = ap (λ y. Some (f y)) is

-- an answer that is there, of one that is right
pub some_of_answer : (r : Result Job NoJob) (o : Option Job) (asked : Asked) (Q : Job → Type 0) → o ≡ result_ok r → Answers asked r
    → ((job : Job) → asked ≡ Ok (task_of job) → Q job) → IfSome o Q
some_of_answer (Ok x) o asked Q is has gives = subst (λ (some : Option Job). IfSome some Q) (sym is) (gives x has)
some_of_answer (Err e) o asked Q is has gives = subst (λ (some : Option Job). IfSome some Q) (sym is) tt

-- what a function gives of all after the first
pub others_of : {X : Type 0} (f : X → Text) (xs : List X) → map f (take (length xs - 1) (drop 1 xs)) ≡ drop 1 (map f xs)
others_of f [] = refl
others_of f (first ∷ rest) =
    let count : length (first ∷ rest) - 1 ≡ length rest = omega arith in
    ap (λ n. map f (take n rest)) count ∙ ap (map f) (take-length rest)
