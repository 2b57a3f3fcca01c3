use Rattle.xs_make.proofs.FewAliases.{no_limit}
use Rattle.xs_make.proofs.laws.generated_rows_pass_no_limit.Goals as goal

pub returns : goal.returns
returns c =
    no_limit (λ e tiles l. (c.rows_add_few.ensures.aliases e tiles l, c.rows_add_few.ensures.inputs e tiles l))
    c.no_limit_is_passed_where_all_fits.ensures
