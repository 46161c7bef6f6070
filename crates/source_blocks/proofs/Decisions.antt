-- What is inherited, block by block and capability by capability.
use Rattle.std.proofs.Common.{◌≡◌, ℕ, ◌+◌, ◌<◌, List, ◌++◌, Option, drop, length, sym, ap, ◌∙◌, add-one}
use Rattle.std.proofs.lemmas.List.{append_assoc}
use Rattle.ti_caps.specs.Tables.{Capability, capability}
use Rattle.ti_caps.specs.declared.capability.Kind.{Kind}
use Rattle.ti_source.specs.Parsing.{reading_of_text}
use Rattle.ti_source.specs.Reading.{Reading}
use Rattle.source_document.specs.Diagnostics.{text_at}
use Rattle.source_blocks.specs.Deciding.{SourceSeen, inherited_below, inherited_from, inherited_one, other_decider, source_at, sources_from}
use Rattle.source_blocks.specs.declared.deciding.Inherited.{Inherited}
use Rattle.source_blocks.proofs.Deciders.{below_one}
use Rattle.source_blocks.proofs.Outlines.{blocks_more}

-- those of one more block
pub source_next : (texts : List (List ℕ)) (at : ℕ) (inherited : List Inherited) (before now whole : List SourceSeen) → at < length texts
    → before ++ sources_from texts inherited at (drop at texts) ≡ whole
    → now ≡ before ++ source_at texts inherited at (reading_of_text (text_at texts at)).names
    → now ++ sources_from texts inherited (at + 1) (drop (at + 1) texts) ≡ whole
source_next texts at inherited before now whole within so e =
    let own = source_at texts inherited at (reading_of_text (text_at texts at)).names in
    let rest = sources_from texts inherited (at + 1) (drop (at + 1) texts) in
    ap (λ (t : List SourceSeen). t ++ rest) e ∙ append_assoc before own rest
    ∙ ap (λ (n : ℕ). before ++ (own ++ sources_from texts inherited n (drop (at + 1) texts))) (add-one at)
    ∙ ap (λ (t : List (List ℕ)). before ++ sources_from texts inherited at t) (sym (blocks_more texts at within)) ∙ so

-- those of one more capability
pub below_next : (blocks : List Reading) (at : ℕ) (kind : Kind) (n : ℕ) (c : Capability) (found : Option ℕ) (start before now : List Inherited)
    → c ≡ capability kind n → found ≡ other_decider blocks at c
    → before ≡ start ++ inherited_below blocks at kind n → now ≡ before ++ inherited_from c found → now ≡ start ++ inherited_below blocks at kind (n + 1)
below_next blocks at kind n c found start before now is decides so e =
    e ∙ ap (λ (o : Option ℕ). before ++ inherited_from c o) decides ∙ ap (λ (k : Capability). before ++ inherited_one blocks at k) is
    ∙ ap (λ (t : List Inherited). t ++ inherited_one blocks at (capability kind n)) so
    ∙ append_assoc start (inherited_below blocks at kind n) (inherited_one blocks at (capability kind n))
    ∙ ap (λ (t : List Inherited). start ++ t) (sym (below_one blocks at kind n))
