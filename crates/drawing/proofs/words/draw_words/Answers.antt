-- `drawing::words::draw_words` meets its contract. In each arm the size is known.
use mathlib.Core.Path.{◌≡◌, refl, ◌∙◌}
use native.Mathlib.Omega.{arith}
use lib.Dec.{lit<, lit≤}
use Rattle.drawing.proofs.Formats.{last-size, looked-up, halves-expanded, words-cut, fits-size}
use Rattle.drawing.proofs.words.draw_words.Goals as goal

pub look_up_words-requires : goal.look_up_words-requires
look_up_words-requires c = (fits-size c.args.f _ _ _ c.in-1.is (lit< tt) refl c.requires.1, lit≤ tt)

pub look_up_words-requires-in-2 : goal.look_up_words-requires-in-2
look_up_words-requires-in-2 c = (fits-size c.args.f _ _ _ c.in-2.is (lit< tt) refl c.requires.1, lit≤ tt)

pub look_up_words-requires-in-4 : goal.look_up_words-requires-in-4
look_up_words-requires-in-4 c = (fits-size c.args.f _ _ _ c.in-4.is (lit< tt) refl c.requires.1, lit≤ tt)

pub look_up_words-requires-in-8 : goal.look_up_words-requires-in-8
look_up_words-requires-in-8 c = (fits-size c.args.f _ _ _ c.in-8.is (lit< tt) refl c.requires.1, lit≤ tt)

pub expand_words-requires : goal.expand_words-requires
expand_words-requires c = fits-size c.args.f _ _ _ c.in-16.is (lit< tt) refl c.requires.1

pub cut_words-requires : goal.cut_words-requires
cut_words-requires c =
    fits-size c.args.f _ _ _
    (last-size c.args.f c.requires.0.stores (λ e. omega arith) (λ e. omega arith) (λ e. omega arith) (λ e. omega arith) (λ e. omega arith))
    (lit< tt) refl c.requires.1

pub returns-in-1 : goal.returns-in-1
returns-in-1 c i h = c.look_up_words.ensures i h ∙ looked-up c.args.f c.requires.0 _ _ _ c.in-1.is i (lit≤ tt)

pub returns-in-2 : goal.returns-in-2
returns-in-2 c i h = c.look_up_words-in-2.ensures i h ∙ looked-up c.args.f c.requires.0 _ _ _ c.in-2.is i (lit≤ tt)

pub returns-in-4 : goal.returns-in-4
returns-in-4 c i h = c.look_up_words-in-4.ensures i h ∙ looked-up c.args.f c.requires.0 _ _ _ c.in-4.is i (lit≤ tt)

pub returns-in-8 : goal.returns-in-8
returns-in-8 c i h = c.look_up_words-in-8.ensures i h ∙ looked-up c.args.f c.requires.0 _ _ _ c.in-8.is i (lit≤ tt)

pub returns-in-16 : goal.returns-in-16
returns-in-16 c i h = c.expand_words.ensures i h ∙ halves-expanded c.args.f c.requires.0 _ _ _ c.in-16.is i refl

pub returns-in_default : goal.returns-in_default
returns-in_default c i h =
    let is-last : c.args.f.bits ≡ 32 =
    last-size c.args.f c.requires.0.stores (λ e. omega arith) (λ e. omega arith) (λ e. omega arith) (λ e. omega arith) (λ e. omega arith) in
    c.cut_words.ensures i h ∙ words-cut c.args.f c.requires.0 _ _ _ is-last i refl
