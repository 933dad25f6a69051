-- How a shape and a plan are written, and why a shape has no plan.
use Rattle.std.specs.Prelude.{ℕ, List, ◌++◌, codes, decimal}
use Rattle.skip_composition.specs.Rules as rules
use Rattle.skip_dimensions.specs.Refusals as domain
use Rattle.skip_plan.specs.declared.plan.Lengths.{Lengths}
use Rattle.skip_plan.specs.declared.plan.Plan.{Plan}
use Rattle.skip_plan.specs.declared.plan.PlanError.{PlanError}
use Rattle.skip_plan.specs.declared.plan.PlanError.TheVariants.{UnknownRule, Domain, DegreeNotAdmitted}
use Rattle.skip_plan.specs.declared.plan.Scratch.{Scratch}
use Rattle.skip_plan.specs.declared.plan.Shape.{Shape}

-- log_size, degree and code, as a line writes them
abbrev pub shape_text : Shape → List ℕ
shape_text h = decimal h.log_size ++ (codes " " ++ (decimal h.degree ++ (codes " " ++ decimal h.code)))

-- a cause of the table of refusals by its number and its text; a code that no rule has is none of them
abbrev pub error_text : PlanError → List ℕ
error_text (UnknownRule c) = codes "no rule has code " ++ decimal c
error_text (Domain f) = codes "refused " ++ (decimal (domain.number_of f) ++ (codes " " ++ domain.text_of f))
error_text (DegreeNotAdmitted d) = codes "refused 8 DegreeNotAdmitted: degree " ++ decimal d

abbrev pub lengths_text : Lengths → List ℕ
lengths_text l =
    codes "points " ++ (decimal l.points
    ++ (codes ", extension table " ++ (decimal l.extension_table
    ++ (codes ", message " ++ (decimal l.message
    ++ (codes ", selector table " ++ (decimal l.selector_table
    ++ (codes ", vector " ++ decimal l.vector))))))))

abbrev pub scratch_text : Scratch → List ℕ
scratch_text s =
    codes "row call " ++ (decimal s.row_call
    ++ (codes ", claim call " ++ (decimal s.claim_call
    ++ (codes ", evaluate " ++ (decimal s.evaluate
    ++ (codes ", selector " ++ decimal s.selector))))))

-- the rule with the number of its operands and its degree
abbrev pub rule_line : Plan → List ℕ
rule_line p =
    codes "  rule " ++ (rules.text_of p.rule
    ++ (codes ": operands " ++ (decimal (rules.arity_of p.rule)
    ++ (codes ", degree " ++ (decimal (rules.degree_of p.rule) ++ codes "\n")))))

-- the dimensions of the extension, the points that are skipped and transmitted, and the bytes of a row
abbrev pub domain_line : Plan → List ℕ
domain_line p =
    codes "  domain: dimensions " ++ (decimal p.log_extended
    ++ (codes ", skipped " ++ (decimal p.size
    ++ (codes ", transmitted " ++ (decimal p.num_transmitted
    ++ (codes ", row bytes " ++ (decimal p.row_bytes ++ codes "\n")))))))

-- the bound of its degree, and the number of points, which carry any lower degree
abbrev pub polynomial_line : Plan → List ℕ
polynomial_line p =
    codes "  round polynomial: degree at most " ++ (decimal p.round_degree
    ++ (codes ", carried below " ++ (decimal p.lengths.points ++ codes "\n")))

abbrev pub lengths_line : Plan → List ℕ
lengths_line p = codes "  lengths: " ++ (lengths_text p.lengths ++ codes "\n")

-- the lines of a plan, indented; no line feed ends the last
abbrev pub plan_text : Plan → List ℕ
plan_text p =
    rule_line p
    ++ (domain_line p
    ++ (polynomial_line p
    ++ (lengths_line p
    ++ (codes "  scratch: " ++ scratch_text p.scratch))))
