-- What holds of every call and every run of what is linked.

-- of one call, of calls one after another and of a start, each of which goes as the model does
pub mod OneCall
pub mod ManyCalls
pub mod Starting
-- that they do: each promise says so
pub mod Follows
pub mod ServerFollows
pub mod HostFollows
-- the statements to cite
pub mod Joined
pub mod ForC
-- the widths that these ask for are what the types say
pub mod Widths
