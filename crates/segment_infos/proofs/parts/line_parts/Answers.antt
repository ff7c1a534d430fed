use Rattle.segment_infos.proofs.LineReads.{line-unread, line-norms_stopped, line-flags_unread, line-map_stopped, line-read}
use Rattle.segment_infos.proofs.parts.line_parts.Goals as goal

pub returns-in-Err : goal.returns-in-Err
returns-in-Err c = line-unread c.args.cur.now c.in-Err.bad c.in-Err.ensures

pub returns-in-Err-norm_parts : goal.returns-in-Err-norm_parts
returns-in-Err-norm_parts c = line-norms_stopped c.args.cur.now c.front_parts.new.cur c.in-Ok.front c.in-Ok.ensures c.norm_parts.new.cur c.norm_parts.new.cur c.in-Err-norm_parts.stop c.in-Err-norm_parts.ensures

pub returns-in-Err-flag_parts : goal.returns-in-Err-flag_parts
returns-in-Err-flag_parts c =
    line-flags_unread c.args.cur.now c.front_parts.new.cur c.in-Ok.front c.in-Ok.ensures c.norm_parts.new.cur c.in-Ok-norm_parts.norms c.in-Ok-norm_parts.ensures c.in-Err-flag_parts.bad c.in-Err-flag_parts.ensures

pub returns-in-Err-map_parts : goal.returns-in-Err-map_parts
returns-in-Err-map_parts c =
    line-map_stopped c.args.cur.now c.front_parts.new.cur c.in-Ok.front c.in-Ok.ensures c.norm_parts.new.cur c.in-Ok-norm_parts.norms c.in-Ok-norm_parts.ensures c.flag_parts.new.cur c.in-Ok-flag_parts.flags c.in-Ok-flag_parts.ensures
    c.map_parts.new.cur c.map_parts.new.cur c.in-Err-map_parts.stop c.in-Err-map_parts.ensures

pub returns : goal.returns
returns c =
    line-read c.args.cur.now c.front_parts.new.cur c.in-Ok.front c.in-Ok.ensures c.norm_parts.new.cur c.in-Ok-norm_parts.norms c.in-Ok-norm_parts.ensures c.flag_parts.new.cur c.in-Ok-flag_parts.flags c.in-Ok-flag_parts.ensures
    c.map_parts.new.cur c.in-Ok-map_parts.map c.in-Ok-map_parts.ensures
