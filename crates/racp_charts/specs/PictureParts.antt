-- What pictures begin with.
use Rattle.std.specs.Prelude.{ℕ, List, codes}
use Rattle.std.specs.Fmt.{decimal}
use Rattle.racp_charts.specs.Texts.{◌⋅◌}

-- the beginning of a picture of this width and height, whose drawings begin so far from the left
unfoldable pub picture_begin : ℕ → ℕ → ℕ → List ℕ
picture_begin left width height =
    codes "<svg xmlns=\"http://www.w3.org/2000/svg\" viewBox=\"" ⋅ decimal left ⋅ codes " 0 " ⋅ decimal width
    ⋅ codes " " ⋅ decimal height ⋅ codes "\" width=\"" ⋅ decimal width ⋅ codes "\" height=\"" ⋅ decimal height
    ⋅ codes "\">\n"

-- what is behind it
unfoldable pub page_element : ℕ → List ℕ
page_element height = codes "<rect class=\"page\" width=\"1000\" height=\"" ⋅ decimal height ⋅ codes "\"/>\n"

-- the beginning of what is drawn below this height, and its end
unfoldable pub group_begin : ℕ → List ℕ
group_begin top = codes "<g transform=\"translate(0 " ⋅ decimal top ⋅ codes ")\">\n"

abbrev pub group_end : List ℕ
group_end = codes "</g>\n"
