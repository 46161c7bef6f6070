-- Documents whose faults are published one after another.
use Rattle.std.proofs.Common.{ℕ, ◌≡◌, ◌+◌, ◌<◌, ◌≤◌, List, [], ◌∷◌, ◌++◌, length, map, get_or, refl, sym, ap, ◌∙◌, append_assoc, append-nil, arith}
use Rattle.std.proofs.Common.{Option, None, Some, length-append, option_map}
use Rattle.std.specs.Option.{option_to_list}
use Rattle.std.proofs.Math.ListN.{set}
use Rattle.std.proofs.lemmas.Grind.{flat_map-append}
use Rattle.std.proofs.lemmas.List.{length-map, map-append}
use Rattle.serde_json.specs.Data.{Data}
use Rattle.lsp_server.specs.Answers.{answer_data}
use Rattle.lsp_server.specs.Sayings.{Sayings}
use Rattle.lsp_server.specs.Steps.{Answer, Open, published, shown_due, shown_if_due}

-- the documents at the front were published, and what is sent of them was put after other values
pub record Published (says : Sayings) (all now : List Open) (before values : List Data) (at : ℕ) : Type 0 where
  pub front : List Open
  pub rest : List Open
  pub whole : all ≡ front ++ rest
  pub now_is : now ≡ map published front ++ rest
  pub place : at ≡ length front
  pub sent : values ≡ before ++ map (answer_data says) (shown_due front)

pub Published-none : (says : Sayings) (all : List Open) (before : List Data) → Published says all all before before 0
Published-none says all before =
    record { front = []; rest = all; whole = refl; now_is = refl; place = refl; sent = sym (append-nil before) }

get_at : (a : List Open) (x d : Open) (b : List Open) → get_or (a ++ x ∷ b) (length a) d ≡ x
get_at [] x d b = refl
get_at (y ∷ a) x d b = get_at a x d b

set_at : (a : List Open) (x y : Open) (b : List Open) → set (a ++ x ∷ b) (length a) y ≡ a ++ y ∷ b
set_at [] x y b = refl
set_at (z ∷ a) x y b = ap (λ (t : List Open). z ∷ t) (set_at a x y b)

module _ (says : Sayings) (all now next : List Open) (before values more : List Data) (at : ℕ) (here : Open) (p : Published says all now before values at)
    (within : at < length now) (d : Open) (found : here ≡ get_or now at d) (changed : next ≡ set now at (published here))
    (sent : more ≡ values ++ map (answer_data says) (shown_if_due here)) where
  lens : length now ≡ length p.front + length p.rest
  lens =
      ap length p.now_is ∙ (length-append (map published p.front) p.rest ∙ ap (λ (n : ℕ). n + length p.rest) (length-map p.front published))

  place_now : at ≡ length (map published p.front)
  place_now = p.place ∙ sym (length-map p.front published)

  with_rest : (rest : List Open) → p.rest ≡ rest → Published says all next before more (at + 1)
  with_rest [] is = let none : length p.rest ≡ 0 = ap length is in absurd (omega (arith, lens, p.place, within, none))
  with_rest (x ∷ rest) is =
      let now_is : now ≡ map published p.front ++ x ∷ rest = p.now_is ∙ ap (λ (t : List Open). map published p.front ++ t) is in
      let same : here ≡ x =
      found ∙ (ap (λ (t : List Open). get_or t at d) now_is ∙ (ap (λ (n : ℕ). get_or (map published p.front ++ x ∷ rest) n d) place_now
      ∙ get_at (map published p.front) x d rest)) in
      record {
        front = p.front ++ x ∷ [];
        rest = rest;
        whole = p.whole ∙ (ap (λ (t : List Open). p.front ++ t) is ∙ sym (append_assoc p.front (x ∷ []) rest));
        now_is = changed
            ∙ (ap (λ (t : List Open). set t at (published here)) now_is
            ∙ (ap (λ (n : ℕ). set (map published p.front ++ x ∷ rest) n (published here)) place_now
            ∙ (set_at (map published p.front) x (published here) rest
            ∙ (ap (λ (y : Open). map published p.front ++ published y ∷ rest) same
            ∙ (sym (append_assoc (map published p.front) (published x ∷ []) rest)
            ∙ ap (λ (t : List Open). t ++ rest) (sym (map-append published p.front (x ∷ []))))))));
        place = let one = length-append p.front (x ∷ []) in omega (arith, p.place, one);
        sent = sent
            ∙ (ap (λ (t : List Data). t ++ map (answer_data says) (shown_if_due here)) p.sent
            ∙ (append_assoc before (map (answer_data says) (shown_due p.front)) (map (answer_data says) (shown_if_due here))
            ∙ ap (λ (t : List Data). before ++ t)
            (sym (map-append (answer_data says) (shown_due p.front) (shown_if_due here))
            ∙ ap (map (answer_data says))
            (ap (λ (y : Open). shown_due p.front ++ shown_if_due y) same
            ∙ (ap (λ (t : List Answer). shown_due p.front ++ t) (sym (append-nil (shown_if_due x)))
            ∙ sym (flat_map-append shown_if_due p.front (x ∷ [])))))));
      }

  -- one more was published
  pub Published-more : Published says all next before more (at + 1)
  Published-more = with_rest p.rest refl

-- all were published
pub Published-all : (says : Sayings) (all now : List Open) (before values : List Data) (at : ℕ) → Published says all now before values at → length now ≤ at
    → (now ≡ map published all) × (values ≡ before ++ map (answer_data says) (shown_due all))
Published-all says all now before values at p none = with_rest p.rest refl
  where
    with_rest : (rest : List Open) → p.rest ≡ rest → (now ≡ map published all) × (values ≡ before ++ map (answer_data says) (shown_due all))
    with_rest [] is =
        let whole : all ≡ p.front = p.whole ∙ (ap (λ (t : List Open). p.front ++ t) is ∙ append-nil p.front) in (
          p.now_is ∙ (ap (λ (t : List Open). map published p.front ++ t) is ∙ (append-nil (map published p.front) ∙ ap (map published) (sym whole))),
          p.sent ∙ ap (λ (t : List Open). before ++ map (answer_data says) (shown_due t)) (sym whole),
        )
    with_rest (x ∷ rest) is =
        let some : length p.rest ≡ length (x ∷ rest) = ap length is in
        let lens : length now ≡ length p.front + length p.rest =
        ap length p.now_is ∙ (length-append (map published p.front) p.rest ∙ ap (λ (n : ℕ). n + length p.rest) (length-map p.front published)) in
        absurd (omega (arith, lens, some, p.place, none))

-- ---- what is sent is put after other values

pub added_none : (says : Sayings) (values : List Data) (wanted : Option Answer) → None ≡ option_map (answer_data says) wanted
    → values ≡ values ++ map (answer_data says) (option_to_list wanted)
added_none says values None h = sym (append-nil values)
added_none says values (Some answer) h = cc

pub added_some : (says : Sayings) (values : List Data) (value : Data) (wanted : Option Answer) → Some value ≡ option_map (answer_data says) wanted
    → values ++ value ∷ [] ≡ values ++ map (answer_data says) (option_to_list wanted)
added_some says values value None h = cc
added_some says values value (Some answer) h = let same : value ≡ answer_data says answer = cc in ap (λ (v : Data). values ++ v ∷ []) same

-- one list of answers after another
pub two_sent : (says : Sayings) (one other : List Answer) (first second last : List Data) → first ≡ map (answer_data says) one
    → second ≡ first → last ≡ second ++ map (answer_data says) other → last ≡ map (answer_data says) (one ++ other)
two_sent says one other first second last is same sent =
    sent ∙ (ap (λ (t : List Data). t ++ map (answer_data says) other) (same ∙ is) ∙ sym (map-append (answer_data says) one other))
