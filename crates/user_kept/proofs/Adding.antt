-- What a block says is added to what was said, use by use.
use Rattle.std.proofs.Common.{◌≡◌, ℕ, suc, List, [], ◌∷◌, ◌++◌, length, Option, Some, None, option_and_then, slice_get, refl, sym, ap, ◌∙◌, subst}
use Rattle.std.specs.Option.{option_or, IsSome}
use Rattle.std.proofs.lemmas.Option.{same_Some}
use Rattle.ti_source.specs.declared.parsing.Rule.TheVariants.{Leftmost}
use Rattle.base_meaning.specs.Owner.{owner, readings}
use Rattle.user_items.specs.Verdicts.{imports}
use Rattle.user_items.specs.Reading.{ReadUserItem}
use Rattle.user_items.specs.Parsing.{user_reading_of_text}
use Rattle.user_values.specs.Expansion.{UserMention, expand_items, expansion, first_said, owner_text}
use Rattle.user_values.specs.Tables.{AddsSaid, Said, names_at}
use Rattle.user_values.proofs.Making.{and_then_parts, some_from, table_of_block, table_of_one_more, used_owner}
use Rattle.user_values.proofs.Resolving.{found}
use Rattle.user_kept.specs.inside.Adding.{AddsBlock, AddsMentions}

-- what these items say was added
pub record IsAdded (texts : List (List ℕ)) (items : List ReadUserItem) (old new : Said) : Type 0 where
  pub mentions : List UserMention
  pub expands_to : expand_items (names_at texts) items ≡ Some mentions
  pub is : (name : List ℕ) → new name ≡ option_or (old name) (first_said mentions name)

or_none : {X : Type 0} (o : Option X) → o ≡ option_or o None
or_none None = refl
or_none (Some x) = refl

or_assoc : {X : Type 0} (a b c : Option X) → option_or (option_or a b) c ≡ option_or a (option_or b c)
or_assoc None b c = refl
or_assoc (Some x) b c = refl

pub nothing_added : (texts : List (List ℕ)) (said : Said) → IsAdded texts [] said said
nothing_added texts said = record { mentions = []; expands_to = refl; is = λ name. or_none (said name) }

pub one_more_added : (texts : List (List ℕ)) (items : List ReadUserItem) (item : ReadUserItem) (old between new : Said) → IsAdded texts items old between
    → AddsSaid texts item.said between new → IsAdded texts (items ++ item ∷ []) old new
one_more_added texts items item old between new h a =
    let t = table_of_one_more Leftmost texts items item (first_said h.mentions) (λ name. option_or (first_said h.mentions name) (first_said a.0 name))
    (record { mentions = h.mentions; expands_to = h.expands_to; is = λ name. refl }) (a.0, a.1, λ name. refl) in
    record {
      mentions = t.mentions;
      expands_to = t.expands_to;
      is = λ name.
          a.2 name ∙ ap (λ o. option_or o (first_said a.0 name)) (h.is name) ∙ or_assoc (old name) (first_said h.mentions name) (first_said a.0 name)
          ∙ ap (option_or (old name)) (t.is name);
    }

-- what all items of a block say is what the block says
pub block_added : (texts : List (List ℕ)) (at : ℕ) (text : List ℕ) (old new : Said) → slice_get texts at ≡ Some text → IsSome (expansion texts text)
    → IsAdded texts (user_reading_of_text text).items old new → AddsMentions (expansion texts text) old new
block_added texts at text old new stands some h =
    let t = table_of_block Leftmost texts at text (first_said h.mentions) stands some
    (record { mentions = h.mentions; expands_to = h.expands_to; is = λ name. refl }) in
    (t.0, t.1, λ name. h.is name ∙ ap (option_or (old name)) (t.2 name))

some_is : {X : Type 0} (x : X) → IsSome (Some x)
some_is x = refl

pub is_there : {X : Type 0} (o : Option X) (x : X) → o ≡ Some x → IsSome o
is_there o x e = subst (λ o. IsSome o) (sym e) (some_is x)

-- a name that a block uses which resolves has mentions
pub used_name : (texts : List (List ℕ)) (text : List ℕ) (k : ℕ) (item : ReadUserItem) (name : List ℕ) → IsSome (expansion texts text)
    → slice_get (user_reading_of_text text).items k ≡ Some item → item.said ≡ imports name → IsSome (names_at texts name)
used_name texts text k item name some s i =
    let whole = some_from (expansion texts text) some in
    let u = used_owner Leftmost texts (suc (length texts)) text whole.0 k item name whole.1 s i in
    let e = found Leftmost texts u.at u.below u.text u.mentions u.stands u.expands_to in
    is_there (names_at texts name) u.mentions
    (ap (λ o. option_and_then (expansion texts) (option_and_then (slice_get texts) o)) u.owned ∙ ap (option_and_then (expansion texts)) u.stands ∙ e)

-- the owner of such a name
pub record OwnsName (texts : List (List ℕ)) (name : List ℕ) : Type 0 where
  pub at : ℕ
  pub text : List ℕ
  pub owned : owner (readings texts) name ≡ Some at
  pub stands : slice_get texts at ≡ Some text
  pub resolves : IsSome (expansion texts text)
  pub same : names_at texts name ≡ expansion texts text

pub owner_of : (texts : List (List ℕ)) (name : List ℕ) → IsSome (names_at texts name) → OwnsName texts name
owner_of texts name h =
    let m = some_from (names_at texts name) h in
    let t = and_then_parts (expansion texts) (owner_text texts name) m.0 m.1 in
    let o = and_then_parts (slice_get texts) (owner (readings texts) name) t.0 t.1 in
    record {
      at = o.0;
      text = t.0;
      owned = o.1;
      stands = o.2;
      resolves = is_there (expansion texts t.0) m.0 t.2;
      same = m.1 ∙ sym t.2;
    }

-- what the owner says was added
pub owner_added : (texts : List (List ℕ)) (name : List ℕ) (at : ℕ) (old new : Said) → IsSome (names_at texts name) → owner (readings texts) name ≡ Some at
    → AddsBlock texts at old new → AddsSaid texts (imports name) old new
owner_added texts name at old new h e a =
    let o = owner_of texts name h in
    let here = a o.text (ap (slice_get texts) (same_place o.at at (sym o.owned ∙ e)) ∙ o.stands) in
    (here.0, o.same ∙ here.1, here.2)
  where
    same_place : (one other : ℕ) → ◌≡◌ {A = Option ℕ} (Some one) (Some other) → other ≡ one
    same_place one other e = sym (same_Some one other e)
