mod Phases
mod Replies
mod Lowest
mod Submissions
mod Openings
