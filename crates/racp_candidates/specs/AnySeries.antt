-- Any series of a planner.
use Rattle.std.specs.Prelude.{List}
use Rattle.racp_model.specs.declared.question.Question.{Question}
use Rattle.racp_candidates.specs.declared.any_series.AnySeries.{AnySeries}
use Rattle.racp_candidates.specs.declared.any_series.AnySeries.TheVariants.{Vectors, Singles, One, Listed, Starts1}

-- the questions still to come
abbrev pub any_questions : AnySeries → List Question
any_questions (Vectors series) = series
any_questions (Singles series) = series
any_questions (One series) = series
any_questions (Listed series) = series
any_questions (Starts1 series) = series
