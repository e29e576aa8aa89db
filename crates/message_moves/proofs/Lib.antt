mod Displacing
