-- The lines of a text, one after another: each text begins with one line at most.
use Rattle.std.proofs.Common.{◌≡◌, ◌∙◌, ℕ, ◌≤◌, List, [], ◌∷◌, ◌++◌, All, arith, refl, sym, ap, get_or, append_assoc}
use Rattle.std.specs.Fmt.{decimal}
use Rattle.std.proofs.lemmas.Grind.{flat_map-append}
use Rattle.std.proofs.lemmas.List.Elements.{All-nil, All-cons, All-head, All-tail, All-append, All-contains, Contains-append_left, Contains-append_right}
use Rattle.racp_model.proofs.lemmas.Relations.{all_members}
use Rattle.std.proofs.lemmas.List.{append_cancel_left}
use Rattle.racp_trees.proofs.Digits.{same_number, feed_is_no_digit}
use Rattle.racp_trees.specs.Texts.{step_letter, step_number, step_line, tree_text, most_number, HasSmallLines}
use Rattle.racp_trees.specs.Trees.{Trees, none, tree, lines_of}
use Rattle.racp_trees.specs.declared.step.Step.{Step}
use Rattle.racp_trees.specs.declared.step.Step.TheVariants.{L, D, C}

-- a line and what follows it
pub line_then : (s : Step) (more : List ℕ) → step_line s ++ more ≡ step_letter s ++ (decimal (step_number s) ++ 10 ∷ more)
unfolding step_line
line_then s more = append_assoc (step_letter s) (decimal (step_number s) ++ 10 ∷ []) more ∙ ap (λ (xs : List ℕ). step_letter s ++ xs) (append_assoc (decimal (step_number s)) (10 ∷ []) more)

-- the letters differ
abbrev letter_of : Step → ℕ
letter_of (L job) = 76
letter_of (D time) = 68
letter_of (C node) = 67

line_letter : (s : Step) (more : List ℕ) → get_or (step_line s ++ more) 0 0 ≡ letter_of s
unfolding step_line
line_letter (L job) more = refl
line_letter (D time) more = refl
line_letter (C node) more = refl

-- two lines of one letter
same_at : (letter : List ℕ) (m n : ℕ) (x y : List ℕ) → m ≤ most_number → n ≤ most_number → letter ++ (decimal m ++ 10 ∷ x) ≡ letter ++ (decimal n ++ 10 ∷ y) → (m ≡ n) × (x ≡ y)
same_at letter m n x y a b e = same_number m n x y 10 (omega arith) (omega arith) feed_is_no_digit (append_cancel_left letter (decimal m ++ 10 ∷ x) (decimal n ++ 10 ∷ y) e)

-- a text begins with one line at most
pub one_line : (s t : Step) (x y : List ℕ) → step_number s ≤ most_number → step_number t ≤ most_number → step_line s ++ x ≡ step_line t ++ y → (s ≡ t) × (x ≡ y)
one_line s t x y a b e = go s t a b e
  where
    clear : (s t : Step) → step_line s ++ x ≡ step_line t ++ y → step_letter s ++ (decimal (step_number s) ++ 10 ∷ x) ≡ step_letter t ++ (decimal (step_number t) ++ 10 ∷ y)
    clear s t e = sym (line_then s x) ∙ (e ∙ line_then t y)

    letters : (s t : Step) → step_line s ++ x ≡ step_line t ++ y → letter_of s ≡ letter_of t
    letters s t e = sym (line_letter s x) ∙ (ap (λ (xs : List ℕ). get_or xs 0 0) e ∙ line_letter t y)

    go : (s t : Step) → step_number s ≤ most_number → step_number t ≤ most_number → step_line s ++ x ≡ step_line t ++ y → (s ≡ t) × (x ≡ y)
    go (L m) (L n) a b e = let r = same_at (step_letter (L m)) m n x y a b (clear (L m) (L n) e) in (ap L r.0, r.1)
    go (D m) (D n) a b e = let r = same_at (step_letter (D m)) m n x y a b (clear (D m) (D n) e) in (ap D r.0, r.1)
    go (C m) (C n) a b e = let r = same_at (step_letter (C m)) m n x y a b (clear (C m) (C n) e) in (ap C r.0, r.1)
    go (L m) (D n) a b e = absurd (omega (arith, letters (L m) (D n) e))
    go (L m) (C n) a b e = absurd (omega (arith, letters (L m) (C n) e))
    go (D m) (L n) a b e = absurd (omega (arith, letters (D m) (L n) e))
    go (D m) (C n) a b e = absurd (omega (arith, letters (D m) (C n) e))
    go (C m) (L n) a b e = absurd (omega (arith, letters (C m) (L n) e))
    go (C m) (D n) a b e = absurd (omega (arith, letters (C m) (D n) e))

-- the text of trees
pub text-none : tree_text none ≡ []
unfolding tree_text lines_of
text-none = refl

pub text-tree : (v : _) (s : Step) (children others : Trees) → tree_text (tree v s children others) ≡ step_line s ++ (tree_text children ++ tree_text others)
unfolding tree_text lines_of
text-tree v s children others = ap (λ (xs : List ℕ). step_line s ++ xs) (flat_map-append step_line (lines_of children) (lines_of others))

abbrev Small : Step → Type 0
Small s = step_number s ≤ most_number

-- of all of two lists, all of each
all_left : (xs ys : List Step) → All Small (xs ++ ys) → All Small xs
all_left xs ys h = all_members Small xs (λ x c. All-contains Small (xs ++ ys) x h (Contains-append_left xs ys x c))

all_right : (xs ys : List Step) → All Small (xs ++ ys) → All Small ys
all_right xs ys h = all_members Small ys (λ x c. All-contains Small (xs ++ ys) x h (Contains-append_right xs ys x c))

-- their numbers
pub small-none : HasSmallLines none
unfolding lines_of
small-none = All-nil Small

pub small-tree : (v : _) (s : Step) (children others : Trees) → step_number s ≤ most_number → HasSmallLines children → HasSmallLines others → HasSmallLines (tree v s children others)
unfolding lines_of
small-tree v s children others own a b = All-cons Small s (lines_of children ++ lines_of others) own (All-append Small (lines_of children) (lines_of others) a b)

pub small-first : (v : _) (s : Step) (children others : Trees) → HasSmallLines (tree v s children others) → step_number s ≤ most_number
unfolding lines_of
small-first v s children others h = All-head Small s (lines_of children ++ lines_of others) h

pub small-children : (v : _) (s : Step) (children others : Trees) → HasSmallLines (tree v s children others) → HasSmallLines children
unfolding lines_of
small-children v s children others h = all_left (lines_of children) (lines_of others) (All-tail Small s (lines_of children ++ lines_of others) h)

pub small-others : (v : _) (s : Step) (children others : Trees) → HasSmallLines (tree v s children others) → HasSmallLines others
unfolding lines_of
small-others v s children others h = all_right (lines_of children) (lines_of others) (All-tail Small s (lines_of children ++ lines_of others) h)
