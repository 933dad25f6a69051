-- The plan of a shape: what comes of it, and every length of a plan.
-- N is the number of transmitted points, 2 ^ e - 2 ^ s. Lengths are in elements.
use Rattle.std.specs.Prelude.{◌≡◌, ℕ, ◌+◌, ◌-◌, ◌*◌, ◌/◌, ◌^◌, ◌<◌, ◌≤◌, true, cond, List, [], ◌∷◌, Some, None, Ok, Err, Option, Result}
use Rattle.skip_dimensions.specs.Degrees.{dimensions, admits}
use Rattle.skip_dimensions.specs.Refusals.{limit, number_of, values_of, construction_for}
use Rattle.skip_composition.specs.Rules.{coded, arity_of, degree_of}
use Rattle.skip_composition.specs.declared.rule.Rule.{Rule}
use Rattle.skip_plan.specs.declared.plan.Lengths.{Lengths}
use Rattle.skip_plan.specs.declared.plan.Plan.{Plan}
use Rattle.skip_plan.specs.declared.plan.PlanError.{PlanError}
use Rattle.skip_plan.specs.declared.plan.PlanError.TheVariants.{UnknownRule, Domain, DegreeNotAdmitted}
use Rattle.skip_plan.specs.declared.plan.Scratch.{Scratch}
use Rattle.skip_plan.specs.declared.plan.Shape.{Shape}

-- what comes of a shape: a plan, a cause of the table by its number and values, or a code that no
-- rule has
pub data Outcome : Type 0 where
  planned : Outcome
  refused : ℕ → List ℕ → Outcome
  unknown : ℕ → Outcome

abbrev pub outcome : Result Plan PlanError → Outcome
outcome (Ok p) = planned
outcome (Err (UnknownRule c)) = unknown c
outcome (Err (Domain f)) = refused (number_of f) (values_of f)
outcome (Err (DegreeNotAdmitted d)) = refused 8 (d ∷ [])

-- whether the shape's domain admits a degree
abbrev pub carried : ℕ → Option ℕ → ℕ → Outcome
carried s None d = refused 8 (d ∷ [])
carried s (Some e) d = cond (admits s e d) planned (refused 8 (d ∷ []))

-- the code is looked at first, then the causes of construction in their order, then the degree of
-- the rule; the shape's own degree sizes the domain
abbrev pub planning : ℕ → Shape → Outcome
planning b h =
    elim (coded h.code) [
      | None ↦ unknown h.code
      | Some r ↦
          elim (construction_for b h.log_size h.degree) [
            | Some report ↦ refused report.0 report.1
            | None ↦ carried h.log_size (dimensions h.log_size h.degree) (degree_of r)
          ]
    ]

-- No cause applies to a shape: its code has the rule, its degree the dimensions s and e, these lie
-- within their limits, and the domain admits the rule's degree.
pub record Free (b : ℕ) (h : Shape) (rule : Rule) (s e : ℕ) : Type 0 where
  pub known : coded h.code ≡ Some rule
  pub skipped : s ≡ h.log_size
  pub sized : dimensions h.log_size h.degree ≡ Some e
  pub larger : s < e
  pub narrow : e ≤ limit b
  pub within : e ≤ 16
  pub whole : 3 ≤ s
  pub carries : admits s e (degree_of rule) ≡ true

abbrev pub lengths_for : ℕ → ℕ → Lengths
lengths_for s e =
    record {
      points = 2 ^ e;
      extension_table = 256 * (2 ^ e - 2 ^ s);
      message = 2 ^ e - 2 ^ s;
      selector_table = 256 * (2 ^ s / 8);
      vector = 2 ^ s;
    }

abbrev pub scratch_for : ℕ → ℕ → ℕ → Scratch
scratch_for s e arity =
    record {
      row_call = arity * (2 ^ e - 2 ^ s + 1);
      claim_call = arity;
      evaluate = 2 ^ e - 2 ^ s;
      selector = 2 ^ s;
    }

abbrev pub plan_for : ℕ → ℕ → Rule → Plan
plan_for s e rule =
    record {
      rule = rule;
      log_size = s;
      log_extended = e;
      size = 2 ^ s;
      num_transmitted = 2 ^ e - 2 ^ s;
      row_bytes = 2 ^ s / 8;
      round_degree = degree_of rule * (2 ^ s - 1);
      lengths = lengths_for s e;
      scratch = scratch_for s e (arity_of rule);
    }
