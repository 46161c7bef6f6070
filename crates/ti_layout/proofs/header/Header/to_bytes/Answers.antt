use Rattle.std.proofs.Common.{◌≡◌, ℕ, List, [], ◌∷◌, get_or, refl}
use Rattle.ti_layout.specs.declared.layout.Format.{Format}
use Rattle.ti_layout.specs.declared.layout.Format.TheVariants.{Legacy}
use Rattle.ti_layout.specs.Layout.{header, magic, number_bytes, number_section}
use Rattle.ti_layout.proofs.header.Header.to_bytes.Goals as goal

twelve : (w : Format) (n f m t s : ℕ) (a b c d e g : List ℕ) → a ≡ number_bytes Legacy (magic w) → b ≡ number_bytes Legacy n → c ≡ number_bytes Legacy f
    → d ≡ number_bytes Legacy m → e ≡ number_bytes Legacy t → g ≡ number_bytes Legacy s
    → (get_or a 0 0 ∷ get_or a 1 0 ∷ get_or b 0 0 ∷ get_or b 1 0 ∷ get_or c 0 0 ∷ get_or c 1 0 ∷ get_or d 0 0 ∷ get_or d 1 0 ∷ get_or e 0 0 ∷ get_or e 1 0
    ∷ get_or g 0 0 ∷ get_or g 1 0 ∷ []) ≡ header w n f m t s
unfolding number_section
twelve w n f m t s a b c d e g h1 h2 h3 h4 h5 h6 = rw (h1, h2, h3, h4, h5, h6) refl

pub returns : goal.returns
returns c =
    let h = c.args.self.now in
    let first : c.word_bytes-magic.result ≡ number_bytes Legacy (magic h.format) = rw (← c.magic.ensures) c.word_bytes-magic.ensures in
    twelve h.format h.names h.flags h.numbers h.texts h.strings _ _ _ _ _ _ first c.word_bytes-names.ensures c.word_bytes-flags.ensures
    c.word_bytes-numbers.ensures c.word_bytes-texts.ensures c.word_bytes-strings.ensures
