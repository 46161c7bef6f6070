-- Each format has exactly one tree, or exactly one place where it is stuck, and the computing
-- reader gives it.
use Rattle.std.proofs.Common.{◌≡◌, ℕ, zero, suc, ◌+◌, ◌≤◌, true, false, ◌⊎◌, inl, inr, List, [], ◌∷◌, ◌++◌, length, length-append, append_assoc, refl, ap}
use Rattle.std.proofs.Common.{sym, ◌∙◌, subst, arith, add-zero}
use Rattle.std.specs.Prelude.{Option, Some, None, ◌==◌}
use Rattle.std.proofs.lemmas.List.{append-nil}
use Rattle.std.proofs.lemmas.Bool.Decides.{Decides-eqb}
use Rattle.ti_formats.specs.declared.codes.Token.{Token}
use Rattle.ti_formats.specs.declared.codes.Token.TheVariants.{Literal}
use Rattle.ti_formats.specs.declared.codes.Placed.{Placed}
use Rattle.ti_formats.specs.Codes.{IsCode}
use Rattle.ti_formats.specs.inside.Codes.{Front, token_after}
use Rattle.ti_formats.specs.Formats.{FormatTree, placed_token, IsCutIntoTokens, no_tokens, then_byte, then_code, AreTokensOf, IsTree, BeginsFormat, IsStuck}
use Rattle.ti_formats.specs.Formats.{HasOneTree}
use Rattle.ti_formats.specs.Reading.{Scan, IsReadingOf}
use Rattle.ti_formats.specs.Reading.{Phase}
use Rattle.ti_formats.specs.inside.Formats.{with_token, scan, scan_of, phases_after, accepted_of, refusal, stuck_place, tree_and_marks, tree_of}
use Rattle.ti_formats.specs.inside.Formats.{IsFormatComputed}
use Rattle.ti_formats.proofs.Reading.{code_read, code_so}
use Rattle.ti_formats.proofs.Scanning.{scan-byte, scan-stop, scan-code}
use Rattle.ti_formats.proofs.Lexing.{accepted-whole, accepted-stop, accepted-here, accepted-none, accepted-front}
use Rattle.ti_formats.proofs.Parsing.{sequence_parsed}
use Rattle.ti_formats.proofs.Accepting.{gone, advanced_all, Accepts, accepts_front, accepts_end, refusal_accepted, parses_accepted, accepted_parses}

-- ---- a cut is scanned

abbrev prefixed : List Placed → Scan → Scan
prefixed tokens s = record { tokens = tokens ++ s.tokens; stop = s.stop }

cut_scanned : {place : ℕ} {text : List ℕ} {tokens : List Placed} → IsCutIntoTokens place text tokens → (more : List ℕ) →
    scan 0 place (text ++ more) ≡ prefixed tokens (scan 0 (place + length text) more)
cut_scanned (no_tokens {place}) more = ap (λ p. scan 0 p more) (sym (add-zero place))
cut_scanned (then_byte {place} b {text} {tokens} other cut) more =
    let count : suc place + length text ≡ place + suc (length text) = omega arith in
    scan-byte place b (text ++ more) other ∙ ap (with_token place (Literal b)) (cut_scanned cut more)
    ∙ ap (λ p. prefixed (placed_token place (Literal b) ∷ tokens) (scan 0 p more)) count
cut_scanned (then_code {place} front {token} {rest} {tokens} is_code cut) more =
    let count : suc place + length front + length rest ≡ place + suc (length (front ++ rest)) = omega (arith, length-append front rest) in
    ap (λ t. scan 0 place (37 ∷ t)) (append_assoc front rest more)
    ∙ scan-code place front (rest ++ more) token (code_read front (rest ++ more) token is_code)
    ∙ ap (with_token place token) (cut_scanned cut more)
    ∙ ap (λ p. prefixed (placed_token place token ∷ tokens) (scan 0 p more)) count

cut_whole : {place : ℕ} {text : List ℕ} {tokens : List Placed} → IsCutIntoTokens place text tokens →
    scan 0 place text ≡ record { tokens = tokens; stop = None }
unfolding scan
cut_whole {place} {text} {tokens} cut =
    ap (scan 0 place) (sym (append-nil text)) ∙ cut_scanned cut [] ∙ ap (λ ts. record { tokens = ts; stop = None }) (append-nil tokens)

-- ---- how far a format is read

-- a place where a text that begins inside these open conditionals is stuck
record IsStuckFrom (place : ℕ) (text : List ℕ) (phases : List Phase) (i : ℕ) : Type 0 where
  pub before : List ℕ
  pub after : List ℕ
  pub tokens : List Placed
  pub opened : List Phase
  pub whole : text ≡ before ++ 37 ∷ after
  pub at : place + length before ≡ i
  pub cut : IsCutIntoTokens place before tokens
  pub accepted : advanced_all phases tokens ≡ Some opened
  pub refused : (front rest : List ℕ) (token : Token) → after ≡ front ++ rest → IsCode front token → phases_after opened token ≡ None

abbrev IsRead : ℕ → List ℕ → List Phase → Option ℕ → Type 0
IsRead place text phases None = (tokens : List Placed) × (opened : List Phase) × IsCutIntoTokens place text tokens × (advanced_all phases tokens ≡ Some opened)
IsRead place text phases (Some i) = IsStuckFrom place text phases i

read_byte : (place b : ℕ) (text : List ℕ) (phases : List Phase) (r : Option ℕ) → (b == 37) ≡ false →
    IsRead (suc place) text phases r → IsRead place (b ∷ text) phases r
unfolding advanced_all
read_byte place b text phases None other (tokens, opened, cut, accepted) = (placed_token place (Literal b) ∷ tokens, opened, then_byte b other cut, accepted)
read_byte place b text phases (Some i) other stuck = record {
  before = b ∷ stuck.before;
  after = stuck.after;
  tokens = placed_token place (Literal b) ∷ stuck.tokens;
  opened = stuck.opened;
  whole = ap (λ t. b ∷ t) stuck.whole;
  at = omega (arith, stuck.at);
  cut = then_byte b other stuck.cut;
  accepted = stuck.accepted;
  refused = stuck.refused;
}

read_code : (place : ℕ) (front rest : List ℕ) (token : Token) (phases opened : List Phase) (r : Option ℕ) → IsCode front token →
    phases_after phases token ≡ Some opened → IsRead (suc place + length front) rest opened r → IsRead place (37 ∷ (front ++ rest)) phases r
unfolding advanced_all
read_code place front rest token phases opened None is_code step (tokens, final, cut, accepted) =
    (placed_token place token ∷ tokens, final, then_code front is_code cut, rw step accepted)
read_code place front rest token phases opened (Some i) is_code step stuck = record {
  before = 37 ∷ (front ++ stuck.before);
  after = stuck.after;
  tokens = placed_token place token ∷ stuck.tokens;
  opened = stuck.opened;
  whole = ap (λ t. 37 ∷ (front ++ t)) stuck.whole ∙ ap (λ t. 37 ∷ t) (sym (append_assoc front stuck.before (37 ∷ stuck.after)));
  at = omega (arith, stuck.at, length-append front stuck.before);
  cut = then_code front is_code stuck.cut;
  accepted = rw step stuck.accepted;
  refused = stuck.refused;
}

abbrev refused_by : List Phase → Scan → Option ℕ
refused_by phases s = refusal phases s.tokens s.stop

-- two codes at the front of a text are the same code
same_code : (text front rest f r : List ℕ) (token t : Token) → token_after text ≡ Some (token, rest) → text ≡ f ++ r → IsCode f t → token ≡ t
same_code text front rest f r token t read whole is_code =
    let e : Some (token, rest) ≡ Some (t, r) = sym read ∙ ap token_after whole ∙ code_read f r t is_code in
    let same : ◌≡◌ {A = Token × List ℕ} (token, rest) (t, r) = cc e in ap (λ p. p.0) same

read_percent : (place : ℕ) (text : List ℕ) (phases : List Phase)
    (shorter : (place' : ℕ) (rest : List ℕ) (opened : List Phase) → length rest ≤ length text
    → IsRead place' rest opened (refused_by opened (scan 0 place' rest)))
    (found : Front Token) → token_after text ≡ found → IsRead place (37 ∷ text) phases (refused_by phases (scan 0 place (37 ∷ text)))
unfolding refusal advanced_all
read_percent place text phases shorter None none =
    subst (λ s. IsRead place (37 ∷ text) phases (refused_by phases s)) (sym (scan-stop place text none)) (record {
      before = [];
      after = text;
      tokens = [];
      opened = phases;
      whole = refl;
      at = add-zero place;
      cut = no_tokens;
      accepted = refl;
      refused = λ front rest token whole is_code. absurd (cc (sym none ∙ ap token_after whole ∙ code_read front rest token is_code));
    })
read_percent place text phases shorter (Some (token, rest)) read =
    let (front, whole, is_code) = code_so text rest token read in
    let scanned : scan 0 place (37 ∷ (front ++ rest)) ≡ with_token place token (scan 0 (suc place + length front) rest) =
    scan-code place front rest token (ap token_after (sym whole) ∙ read) in
    let step : IsRead place (37 ∷ (front ++ rest)) phases (refused_by phases (with_token place token (scan 0 (suc place + length front) rest))) =
    at_token (phases_after phases token) refl front is_code whole (shorter (suc place + length front) rest) in
    subst (λ t. IsRead place (37 ∷ t) phases (refused_by phases (scan 0 place (37 ∷ t)))) (sym whole)
    (subst (λ s. IsRead place (37 ∷ (front ++ rest)) phases (refused_by phases s)) (sym scanned) step)
  where
    at_token : (o : Option (List Phase)) → phases_after phases token ≡ o → (front : List ℕ) → IsCode front token → text ≡ front ++ rest →
        ((opened : List Phase) → length rest ≤ length text → IsRead (suc place + length front) rest opened
        (refused_by opened (scan 0 (suc place + length front) rest))) →
        IsRead place (37 ∷ (front ++ rest)) phases (refused_by phases (with_token place token (scan 0 (suc place + length front) rest)))
    at_token None step front is_code whole rest_read =
        subst (λ a. IsRead place (37 ∷ (front ++ rest)) phases
        (elim a as (λ _. Option ℕ) [ None ↦ Some place | Some opened ↦ refused_by opened (scan 0 (suc place + length front) rest) ])) (sym step) (record {
          before = [];
          after = front ++ rest;
          tokens = [];
          opened = phases;
          whole = refl;
          at = add-zero place;
          cut = no_tokens;
          accepted = refl;
          refused = λ f r t same is_other. ap (phases_after phases) (sym (same_code text front rest f r token t read (whole ∙ same) is_other)) ∙ step;
        })
    at_token (Some opened) step front is_code whole rest_read =
        subst (λ a. IsRead place (37 ∷ (front ++ rest)) phases
        (elim a as (λ _. Option ℕ) [ None ↦ Some place | Some opened ↦ refused_by opened (scan 0 (suc place + length front) rest) ])) (sym step)
        (read_code place front rest token phases opened _ is_code step (rest_read opened (omega (arith, ap length whole, length-append front rest))))

read_from : (n place : ℕ) (text : List ℕ) (phases : List Phase) → length text ≤ n → IsRead place text phases (refused_by phases (scan 0 place text))
unfolding scan refusal advanced_all
read_from n place [] phases few = ([], phases, no_tokens, refl)
read_from zero place (b ∷ text) phases few = absurd (omega arith)
read_from (suc n) place (b ∷ text) phases few =
    elim (b == 37) as (λ t. (b == 37) ≡ t → IsRead place (b ∷ text) phases (refused_by phases (scan 0 place (b ∷ text)))) [
      | true ↦ λ at.
          subst (λ c. IsRead place (c ∷ text) phases (refused_by phases (scan 0 place (c ∷ text)))) (sym ((Decides-eqb b 37).0 at))
          (read_percent place text phases (λ place' rest opened shorter. read_from n place' rest opened (omega arith)) (token_after text) refl)
      | false ↦ λ other.
          subst (λ s. IsRead place (b ∷ text) phases (refused_by phases s)) (sym (scan-byte place b text other))
          (read_byte place b text phases _ other (read_from n (suc place) text phases (omega arith)))
    ] refl

-- ---- the laws

tree_computed : (format : List ℕ) (t : FormatTree) → IsTree format t → (stuck_place format ≡ None) × (tree_of format ≡ t)
unfolding stuck_place refusal tree_and_marks
tree_computed format t tree =
    let scanned : scan_of format ≡ record { tokens = tree.tokens; stop = None } = cut_whole tree.cut in
    let (opened, all) = parses_accepted tree.tokens t tree.parses in (
      ap (refused_by []) scanned ∙ ap (λ ts. refusal [] ts None) (sym (append-nil tree.tokens)) ∙ refusal_accepted tree.tokens [] opened [] None all,
      ap (λ s. (tree_and_marks s.tokens).0) scanned ∙ ap (λ parts. parts.0) (sequence_parsed tree.parses refl),
    )

computed_tree : (format : List ℕ) → stuck_place format ≡ None → IsTree format (tree_of format)
unfolding stuck_place
computed_tree format none =
    let (tokens, opened, cut, accepted) = subst (IsRead 0 format []) none (read_from (length format) 0 format [] (omega arith)) in
    let (t, parses) = accepted_parses tokens (opened, accepted) in
    let tree : IsTree format t = record { tokens = tokens; cut = cut; parses = parses } in
    subst (IsTree format) (sym (tree_computed format t tree).1) tree

-- where a format is stuck, a token that begins no format may not come
not_allowed : {format : List ℕ} {place : ℕ} (stuck : IsStuck format place) (opened : List Phase) → advanced_all [] stuck.tokens ≡ Some opened →
    (token : Token) (o : Option (List Phase)) → phases_after opened token ≡ o →
    (BeginsFormat (stuck.tokens ++ placed_token place token ∷ []) → ⊥) → phases_after opened token ≡ None
not_allowed stuck opened accepted token None step none = step
not_allowed {format} {place} stuck opened accepted token (Some last) step none =
    let (t, parses) = accepted_parses (stuck.tokens ++ placed_token place token ∷ [])
    (accepts_end stuck.tokens (placed_token place token) [] opened last accepted step) in
    absurd (none ([], t, subst (λ ts. AreTokensOf ts t) (sym (append-nil (stuck.tokens ++ placed_token place token ∷ []))) parses))

stuck_computed : (format : List ℕ) (place : ℕ) → IsStuck format place → stuck_place format ≡ Some place
unfolding stuck_place refusal
stuck_computed format place stuck =
    let (more, t, parses) = stuck.begins in
    let (opened, accepted, rest) = accepts_front stuck.tokens more [] (parses_accepted (stuck.tokens ++ more) t parses) in
    ap (refused_by []) (ap (scan 0 0) stuck.whole ∙ cut_scanned stuck.cut (37 ∷ stuck.after)
    ∙ ap (λ p. prefixed stuck.tokens (scan 0 p (37 ∷ stuck.after))) (omega (arith, stuck.length_before)))
    ∙ refusal_accepted stuck.tokens [] opened (scan 0 place (37 ∷ stuck.after)).tokens (scan 0 place (37 ∷ stuck.after)).stop accepted
    ∙ here opened accepted (token_after stuck.after) refl
  where
    here : (opened : List Phase) → advanced_all [] stuck.tokens ≡ Some opened → (found : Front Token) → token_after stuck.after ≡ found →
        refused_by opened (scan 0 place (37 ∷ stuck.after)) ≡ Some place
    here opened accepted None none = ap (refused_by opened) (scan-stop place stuck.after none)
    here opened accepted (Some (token, rest)) read =
        let (front, whole, is_code) = code_so stuck.after rest token read in
        let scanned : scan 0 place (37 ∷ stuck.after) ≡ with_token place token (scan 0 (suc place + length front) rest) =
        ap (λ a. scan 0 place (37 ∷ a)) whole ∙ scan-code place front rest token (ap token_after (sym whole) ∙ read) in
        ap (refused_by opened) scanned
        ∙ ap (λ a. elim a as (λ _. Option ℕ) [ None ↦ Some place | Some next ↦ refused_by next (scan 0 (suc place + length front) rest) ])
        (not_allowed stuck opened accepted token (phases_after opened token) refl (stuck.none front rest token whole is_code))

computed_stuck : (format : List ℕ) (place : ℕ) → stuck_place format ≡ Some place → IsStuck format place
unfolding stuck_place advanced_all
computed_stuck format place is =
    let from : IsStuckFrom 0 format [] place = subst (IsRead 0 format []) is (read_from (length format) 0 format [] (omega arith)) in
    let (t, parses) = accepted_parses from.tokens (from.opened, from.accepted) in
    record {
      before = from.before;
      after = from.after;
      whole = from.whole;
      length_before = omega (arith, from.at);
      tokens = from.tokens;
      cut = from.cut;
      begins = ([], t, subst (λ ts. AreTokensOf ts t) (sym (append-nil from.tokens)) parses);
      none = λ front rest token whole is_code. refuses from token (from.refused front rest token whole is_code);
    }
  where
    refuses : (from : IsStuckFrom 0 format [] place) (token : Token) → phases_after from.opened token ≡ None
        → BeginsFormat (from.tokens ++ placed_token place token ∷ []) → ⊥
    refuses from token step (more, t, parses) =
        let all = parses_accepted ((from.tokens ++ placed_token place token ∷ []) ++ more) t parses in
        let (middle, accepted, rest) = accepts_front from.tokens (placed_token place token ∷ more) []
        (subst (Accepts []) (append_assoc from.tokens (placed_token place token ∷ []) more) all) in
        let same : middle ≡ from.opened = cc (sym accepted ∙ from.accepted) in
        let no_step : phases_after middle token ≡ None = ap (λ o. phases_after o token) same ∙ step in
        let stops : None ≡ Some rest.0 = sym (ap (λ a. gone a (λ o. advanced_all o more)) no_step) ∙ rest.1 in
        absurd (cc stops)

pub is_computed : (format : List ℕ) → IsFormatComputed format
is_computed format = record {
  tree = λ t. (tree_computed format t, λ h. subst (IsTree format) h.1 (computed_tree format h.0));
  stuck = λ place. (stuck_computed format place, computed_stuck format place);
}

pub one_reading : (format : List ℕ) → HasOneTree format
one_reading format = record {
  some = either (stuck_place format) refl;
  one_tree = λ t u tree other. sym (tree_computed format t tree).1 ∙ (tree_computed format u other).1;
  one_place = λ i j stuck other. some_is (sym (stuck_computed format i stuck) ∙ stuck_computed format j other);
  not_both = λ t i tree stuck. absurd (cc (sym (tree_computed format t tree).0 ∙ stuck_computed format i stuck));
}
  where
    some_is : {i j : ℕ} → Some i ≡ Some j → i ≡ j
    some_is e = cc e

    either : (o : Option ℕ) → stuck_place format ≡ o → ((t : FormatTree) × IsTree format t) ⊎ ((place : ℕ) × IsStuck format place)
    either None is = inl (tree_of format, computed_tree format is)
    either (Some place) is = inr (place, computed_stuck format place is)

-- the tokens of a format that is not stuck
tokens_whole : (format : List ℕ) (t : FormatTree) (tree : IsTree format t) → (accepted_of [] (scan_of format)).tokens ≡ tree.tokens
unfolding stuck_place
tokens_whole format t tree =
    accepted-whole [] (scan_of format).tokens (scan_of format).stop (tree_computed format t tree).0 ∙ ap (λ s. s.tokens) (cut_whole tree.cut)

-- the end of the tokens that may come
tokens_stop : (format : List ℕ) → (accepted_of [] (scan_of format)).stop ≡ stuck_place format
unfolding stuck_place
tokens_stop format = accepted-stop [] (scan_of format).tokens (scan_of format).stop

-- the tokens of a format that is stuck, up to the place
tokens_before : (format : List ℕ) (place : ℕ) (stuck : IsStuck format place) → (accepted_of [] (scan_of format)).tokens ≡ stuck.tokens
tokens_before format place stuck =
    let (more, t, parses) = stuck.begins in
    let (opened, accepted, rest) = accepts_front stuck.tokens more [] (parses_accepted (stuck.tokens ++ more) t parses) in
    ap (λ s. (accepted_of [] s).tokens) (ap (scan 0 0) stuck.whole ∙ cut_scanned stuck.cut (37 ∷ stuck.after)
    ∙ ap (λ p. prefixed stuck.tokens (scan 0 p (37 ∷ stuck.after))) (omega (arith, stuck.length_before)))
    ∙ accepted-front stuck.tokens [] opened (scan 0 place (37 ∷ stuck.after)).tokens (scan 0 place (37 ∷ stuck.after)).stop accepted
    ∙ ap (λ ts. stuck.tokens ++ ts) (none_after opened accepted (token_after stuck.after) refl) ∙ append-nil stuck.tokens
  where
    none_after : (opened : List Phase) → advanced_all [] stuck.tokens ≡ Some opened → (found : Front Token) → token_after stuck.after ≡ found →
        (accepted_of opened (scan 0 place (37 ∷ stuck.after))).tokens ≡ []
    none_after opened accepted None none =
        ap (λ s. (accepted_of opened s).tokens) (scan-stop place stuck.after none) ∙ ap (λ s. s.tokens) (accepted-none opened [] (Some place) refl)
    none_after opened accepted (Some (token, rest)) read =
        let (front, whole, is_code) = code_so stuck.after rest token read in
        ap (λ s. (accepted_of opened s).tokens) (ap (λ a. scan 0 place (37 ∷ a)) whole
        ∙ scan-code place front rest token (ap token_after (sym whole) ∙ read))
        ∙ ap (λ s. s.tokens) (accepted-here place token opened _ _
        (not_allowed stuck opened accepted token (phases_after opened token) refl (stuck.none front rest token whole is_code)))

-- what is read of a format
pub reading_of : (format : List ℕ) → IsReadingOf format (accepted_of [] (scan_of format))
reading_of format = record {
  whole = λ t tree. (tokens_stop format ∙ (tree_computed format t tree).0, tokens_whole format t tree);
  stuck = λ place stuck. (tokens_stop format ∙ stuck_computed format place stuck, tokens_before format place stuck);
}

-- where what is read of a format stops
pub reading_stop : (format : List ℕ) (reading : Scan) → IsReadingOf format reading → reading.stop ≡ stuck_place format
reading_stop format reading read = either (stuck_place format) refl
  where
    either : (o : Option ℕ) → stuck_place format ≡ o → reading.stop ≡ stuck_place format
    either None is = (read.whole (tree_of format) (computed_tree format is)).0 ∙ sym is
    either (Some place) is = (read.stuck place (computed_stuck format place is)).0 ∙ sym is
